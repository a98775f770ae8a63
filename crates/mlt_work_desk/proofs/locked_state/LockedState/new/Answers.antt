use Rattle.std.proofs.Common.{ap, subst, sym}
use Rattle.mlt_work_desk.specs.declared.log_handles.Past.{Past}
use Rattle.mlt_work_desk.{specs.Playing.HaveMade, proofs.Playing.none_made}
use Rattle.mlt_work_desk.proofs.locked_state.LockedState.new.Goals as goal

pub invariant_of-result-clause-made_by : goal.invariant_of-result-clause-made_by
invariant_of-result-clause-made_by g c =
    let acts = ap (λ (past : Past). past.acts) c.requires.none in
    subst (λ acts. HaveMade acts c.in_ok-manager.manager) (sym acts)
    (none_made c.in_ok-manager.manager c.in_ok-manager.ensures.opening.events c.in_ok-manager.ensures.course c.in_ok-manager.ensures.opening.items)
