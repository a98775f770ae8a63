use Rattle.std.proofs.Common.{◌≡◌, Some, refl, sym, subst, ◌∙◌}
use Rattle.mlt_tx.proofs.Names.{Transaction, IsBusy}
use Rattle.mlt_tx.{specs.OpenAt.IsIdle, proofs.TxSlots.transaction_changed, proofs.TxSlots.one_changes, proofs.Trying.busy_unless_idle, proofs.Trying.not_found, proofs.Trying.found_there, proofs.Trying.found_at}
use Rattle.mlt_tx.proofs.table.OpenTransactions.try_step.Goals as goal

pub returns-in_default-clause-tries : goal.returns-in_default-clause-tries
returns-in_default-clause-tries g c =
    (not_found c.self.inside.slots.items c.deref.result.now c.args.self.now c.args.tx c.self.view_is c.deref.ensures.value (sym c.in_default.is ∙ c.slot_of.ensures), refl, refl)

pub returns-in-Idle-clause-tries : goal.returns-in-Idle-clause-tries
returns-in-Idle-clause-tries g c =
    (found_at c.self.inside.slots.items c.deref.result.now c.args.self.now c.args.tx c.in-Some.place c.index.result.now c.deref-2.result.now c.self.view_is c.deref.ensures.value c.in-Some.ensures c.index.ensures c.deref-2.ensures IsIdle (subst IsIdle (sym (c.state.ensures.idle c.in-Idle.is)) tt), refl, refl)

pub step-requires : goal.step-requires
step-requires g c =
    let there = found_there c.self.inside.slots.items c.deref.result.now c.args.self.now c.args.tx c.in-Some.place c.index_mut.result.now c.deref_mut.result.now c.self.view_is c.deref.ensures.value c.in-Some.ensures c.index_mut.ensures.value c.deref_mut.ensures.value in
    let seen = found_there c.self.inside.slots.items c.deref.result.now c.args.self.now c.args.tx c.in-Some.place c.index.result.now c.deref-2.result.now c.self.view_is c.deref.ensures.value c.in-Some.ensures c.index.ensures c.deref-2.ensures in
    let both : Some c.deref-2.result.now ≡ Some c.deref_mut.result.now = sym seen ∙ there in
    let same : c.deref-2.result.now ≡ c.deref_mut.result.now = cc in
    record { ready = c.requires.may c.deref_mut.result.now there (subst (λ (t : Transaction). IsBusy t.at) same (busy_unless_idle c.state.result c.deref-2.result.now.at c.in_default-state.not-Idle c.state.ensures.pending c.state.ensures.undoing)) }

pub invariant_of-self : goal.invariant_of-self
invariant_of-self g c = (transaction_changed c.self.inside.slots.items c.deref.result.now c.self.inside.taken c.args.tx c.in-Some.place c.index_mut.result.now c.step.new.self c.self.invariant c.deref.ensures.value c.in-Some.ensures c.index_mut.ensures.value).are_slots

pub returns-clause-tries : goal.returns-clause-tries
returns-clause-tries g c = record { changes = one_changes c.self.inside.slots.items c.deref.result.now c.args.self.now c.self.inside.taken c.args.tx c.in-Some.place c.index_mut.result.now c.step.new.self c.self.invariant c.self.view_is c.deref.ensures.value c.in-Some.ensures c.index_mut.ensures.value c.deref_mut.result.now c.deref_mut.ensures.value; tells = c.step.ensures.tells }
