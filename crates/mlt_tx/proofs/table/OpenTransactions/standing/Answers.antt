use Rattle.std.proofs.Common.{◌≡◌, flat_map, sym, ap, subst, ◌∙◌}
use Rattle.std.proofs.lemmas.Result.{IfOk-weaker}
use Rattle.mlt_tx.proofs.Names.{Table, TxSlot, table_of}
use Rattle.mlt_tx.specs.{Standing.LeadsFromLeft, TxSlots.entries_in}
use Rattle.mlt_tx.proofs.Standing.{standing_leads}
use Rattle.mlt_tx.proofs.table.OpenTransactions.standing.Goals as goal

pub returns-clause-leads : goal.returns-clause-leads
returns-clause-leads c =
    let slots = c.self.inside.slots.items in
    let leads = subst (λ (table : Table). LeadsFromLeft table (flat_map entries_in slots)) c.self.view_is (standing_leads slots (record { as_many = c.self.invariant.one_each })) in
    IfOk-weaker c.standing_of.result (λ done. done.items ≡ flat_map entries_in c.deref.result.now) (λ done. LeadsFromLeft c.args.self.now done.items)
    (λ done all. subst (LeadsFromLeft c.args.self.now) (sym (all ∙ ap (flat_map entries_in) c.deref.ensures.value)) leads) c.standing_of.ensures.all
