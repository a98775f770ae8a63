use Rattle.std.proofs.Common.{refl, sym, ◌∙◌}
use Rattle.mlt_tx.proofs.Names.{on_err_weaker, IsPending, IsUndoing}
use Rattle.std.proofs.lemmas.Result.{on_ok_weaker}
use Rattle.mlt_tx.proofs.{TxSlots.transaction_changed, TxSlots.one_changes, Trying.call_tried, Trying.not_found, Trying.found_at, Trying.found_idle}
use Rattle.mlt_tx.proofs.table.OpenTransactions.try_call.Goals as goal

pub returns-in_default-clause-tries : goal.returns-in_default-clause-tries
returns-in_default-clause-tries c =
    (not_found c.self.inside.slots.items c.deref.result.now c.args.self.now c.args.tx c.self.view_is c.deref.ensures.value (sym c.in_default.is ∙ c.slot_of.ensures), refl, refl)

pub returns-in-Pending-clause-tries : goal.returns-in-Pending-clause-tries
returns-in-Pending-clause-tries c =
    (found_at c.self.inside.slots.items c.deref.result.now c.args.self.now c.args.tx c.in-Some.place c.index.result.now c.deref-2.result.now c.self.view_is c.deref.ensures.value c.in-Some.ensures c.index.ensures c.deref-2.ensures IsPending (c.state.ensures.pending c.in-Pending.is), refl, refl)

pub returns-in-Undoing-clause-tries : goal.returns-in-Undoing-clause-tries
returns-in-Undoing-clause-tries c =
    (found_at c.self.inside.slots.items c.deref.result.now c.args.self.now c.args.tx c.in-Some.place c.index.result.now c.deref-2.result.now c.self.view_is c.deref.ensures.value c.in-Some.ensures c.index.ensures c.deref-2.ensures IsUndoing (c.state.ensures.undoing c.in-Undoing.is), refl, refl)

pub returns-then-len-max_ops-clause-tries : goal.returns-then-len-max_ops-clause-tries
returns-then-len-max_ops-clause-tries c = ((c.len.result, found_idle c.self.inside.slots.items c.deref.result.now c.args.self.now c.args.tx c.in-Some.place c.index.result.now c.deref-2.result.now c.self.view_is c.deref.ensures.value c.in-Some.ensures c.index.ensures c.deref-2.ensures c.deref-3.result.now c.len.result c.deref-3.ensures (c.state.ensures.idle c.in-Idle.is) c.len.ensures, c.if-len-max_ops.true), refl, refl)

pub invariant_of-self : goal.invariant_of-self
invariant_of-self c = (transaction_changed c.self.inside.slots.items c.deref.result.now c.self.inside.taken c.args.tx c.in-Some.place c.index_mut.result.now c.call.new.self c.self.invariant c.deref.ensures.value c.in-Some.ensures c.index_mut.ensures.value).are_slots

pub returns-clause-tries : goal.returns-clause-tries
returns-clause-tries c =
    let changes = one_changes c.self.inside.slots.items c.deref.result.now c.args.self.now c.self.inside.taken c.args.tx c.in-Some.place c.index_mut.result.now c.call.new.self c.self.invariant c.self.view_is c.deref.ensures.value c.in-Some.ensures c.index_mut.ensures.value c.deref_mut.result.now c.deref_mut.ensures.value in
    call_tried c.args.tx c.args.op c.args.max_ops c.args.self.now _ c.args.shared.now c.call.new.shared c.call.result (c.len.result, found_idle c.self.inside.slots.items c.deref.result.now c.args.self.now c.args.tx c.in-Some.place c.index.result.now c.deref-2.result.now c.self.view_is c.deref.ensures.value c.in-Some.ensures c.index.ensures c.deref-2.ensures c.deref-3.result.now c.len.result c.deref-3.ensures (c.state.ensures.idle c.in-Idle.is) c.len.ensures, c.if-len-max_ops.false)
    (on_ok_weaker c.call.result (λ tells. record { changes = changes; tells = tells }) c.call.ensures.calls) (on_err_weaker c.call.result (λ tells. record { changes = changes; tells = tells }) c.call.ensures.err) c.call.ensures.refusal
