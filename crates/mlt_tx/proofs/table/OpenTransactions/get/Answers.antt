use Rattle.std.proofs.Common.{Some, sym, ap, ◌∙◌, option_copied}
use Rattle.std.specs.FinMap as map
use Rattle.mlt_tx.proofs.Names.{TxSlot, Table}
use Rattle.mlt_tx.proofs.TxSlots.{none_sits, who_sits}
use Rattle.mlt_tx.proofs.table.OpenTransactions.get.Goals as goal

pub returns-in_err-place : goal.returns-in_err-place
returns-in_err-place c =
    ap option_copied c.from_residual.ensures
    ∙ sym (none_sits c.self.inside.slots.items c.deref.result.now c.args.tx c.deref.ensures.value (sym c.in_err-place.was ∙ c.slot_of.ensures))
    ∙ ap (λ (t : Table). map.get t c.args.tx) c.self.view_is

pub returns : goal.returns
returns c =
    ap Some c.deref-2.ensures ∙ ap (λ (s : TxSlot). Some s.transaction.value) c.index.ensures
    ∙ sym (who_sits c.self.inside.slots.items c.deref.result.now c.args.tx c.in_ok-place.place c.index.result.now c.deref.ensures.value (sym c.in_ok-place.was ∙ c.slot_of.ensures))
    ∙ ap (λ (t : Table). map.get t c.args.tx) c.self.view_is
