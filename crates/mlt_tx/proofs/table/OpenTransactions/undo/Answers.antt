use Rattle.std.proofs.Common.{sym, ap, ◌∙◌}
use Rattle.mlt_tx.proofs.Names.{At}
use Rattle.mlt_tx.proofs.TxSlots.{transaction_changed, none_open, one_changes}
use Rattle.mlt_tx.proofs.table.OpenTransactions.undo.Goals as goal

pub unreachable-requires : goal.unreachable-requires
unreachable-requires c = absurd (none_open c.self.inside.slots.items c.deref.result.now c.args.self.now c.args.tx c.self.view_is c.deref.ensures.value (sym c.in_default.is ∙ c.slot_of.ensures) c.requires.is_open)

pub invariant_of-self : goal.invariant_of-self
invariant_of-self c = (transaction_changed c.self.inside.slots.items c.deref.result.now c.self.inside.taken c.args.tx c.in-Some.place c.index_mut.result.now (record c.deref_mut.result.now { at = c.undo.new.self }) c.self.invariant c.deref.ensures.value c.in-Some.ensures c.index_mut.ensures.value).are_slots

pub returns : goal.returns
returns c = record { puts = record { changes = one_changes c.self.inside.slots.items c.deref.result.now c.args.self.now c.self.inside.taken c.args.tx c.in-Some.place c.index_mut.result.now (record c.deref_mut.result.now { at = c.undo.new.self }) c.self.invariant c.self.view_is c.deref.ensures.value c.in-Some.ensures c.index_mut.ensures.value c.deref_mut.result.now c.deref_mut.ensures.value; put = ap (λ (a : At). record c.deref_mut.result.now { at = a }) c.undo.ensures } }
