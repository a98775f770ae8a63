use Rattle.std.proofs.Common.{sym, ◌∙◌}
use Rattle.mlt_tx.proofs.TxSlots.{transaction_changed, it_sits, not_open, one_changes}
use Rattle.mlt_tx.proofs.table.OpenTransactions.cancel.Goals as goal

pub unreachable-requires : goal.unreachable-requires
unreachable-requires c = not_open c.self.inside.slots.items c.deref.result.now c.args.self.now c.args.tx c.requires.is_open.0 c.self.view_is c.deref.ensures.value (sym c.in_default.is ∙ c.slot_of.ensures) c.requires.is_open.1

pub invariant_of-self : goal.invariant_of-self
invariant_of-self c = (transaction_changed c.self.inside.slots.items c.deref.result.now c.self.inside.taken c.args.tx c.in-Some.place c.index_mut.result.now c.cancel.new.self c.self.invariant c.deref.ensures.value c.in-Some.ensures c.index_mut.ensures.value).are_slots

pub cancel-requires-clause-pending : goal.cancel-requires-clause-pending
cancel-requires-clause-pending c = rw (it_sits c.self.inside.slots.items c.deref.result.now c.args.self.now c.args.tx c.in-Some.place c.index_mut.result.now c.requires.is_open.0 c.self.view_is c.deref.ensures.value c.in-Some.ensures c.index_mut.ensures.value c.requires.is_open.1 c.deref_mut.result.now c.deref_mut.ensures.value) c.requires.is_open.2

pub cancel-requires-clause-there : goal.cancel-requires-clause-there
cancel-requires-clause-there c = rw (it_sits c.self.inside.slots.items c.deref.result.now c.args.self.now c.args.tx c.in-Some.place c.index_mut.result.now c.requires.is_open.0 c.self.view_is c.deref.ensures.value c.in-Some.ensures c.index_mut.ensures.value c.requires.is_open.1 c.deref_mut.result.now c.deref_mut.ensures.value) c.requires.is_open.3

pub returns-clause-cancels : goal.returns-clause-cancels
returns-clause-cancels c = record { changes = one_changes c.self.inside.slots.items c.deref.result.now c.args.self.now c.self.inside.taken c.args.tx c.in-Some.place c.index_mut.result.now c.cancel.new.self c.self.invariant c.self.view_is c.deref.ensures.value c.in-Some.ensures c.index_mut.ensures.value c.deref_mut.result.now c.deref_mut.ensures.value; tells = c.cancel.ensures.tells }
