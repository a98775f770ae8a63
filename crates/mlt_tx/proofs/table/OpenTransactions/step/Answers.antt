use Rattle.std.proofs.Common.{sym, ◌∙◌}
use Rattle.mlt_tx.proofs.TxSlots.{transaction_changed, it_sits, not_open, one_changes}
use Rattle.mlt_tx.proofs.table.OpenTransactions.step.Goals as goal

pub unreachable-requires : goal.unreachable-requires
unreachable-requires g c = not_open c.self.inside.slots.items c.deref.result.now c.args.self.now c.args.tx c.requires.is_open.0 c.self.view_is c.deref.ensures.value (sym c.in-None.is ∙ c.slot_of.ensures) c.requires.is_open.1

pub invariant_of-self : goal.invariant_of-self
invariant_of-self g c = (transaction_changed c.self.inside.slots.items c.deref.result.now c.self.inside.taken c.args.tx c.in-Some.place c.index_mut.result.now c.step.new.self c.self.invariant c.deref.ensures.value c.in-Some.ensures c.index_mut.ensures.value).are_slots

pub step-requires : goal.step-requires
step-requires g c = record { ready = rw (it_sits c.self.inside.slots.items c.deref.result.now c.args.self.now c.args.tx c.in-Some.place c.index_mut.result.now c.requires.is_open.0 c.self.view_is c.deref.ensures.value c.in-Some.ensures c.index_mut.ensures.value c.requires.is_open.1 c.deref_mut.result.now c.deref_mut.ensures.value) c.requires.is_open.2 }

pub returns-clause-steps : goal.returns-clause-steps
returns-clause-steps g c = record { changes = one_changes c.self.inside.slots.items c.deref.result.now c.args.self.now c.self.inside.taken c.args.tx c.in-Some.place c.index_mut.result.now c.step.new.self c.self.invariant c.self.view_is c.deref.ensures.value c.in-Some.ensures c.index_mut.ensures.value c.deref_mut.result.now c.deref_mut.ensures.value; tells = c.step.ensures.tells }
