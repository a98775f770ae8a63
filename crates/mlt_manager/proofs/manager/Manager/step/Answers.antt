use Rattle.std.proofs.Common.{IfOk, ap, subst, ◌∙◌}
use Rattle.mlt_manager.proofs.Names.{counted, LeavesBase, fields_of}
use Rattle.mlt_manager.proofs.{Keeping.is_counted, Kept.step_kept, Kept.step_leads, Others.step_others}
use Rattle.mlt_manager.proofs.manager.Manager.step.Goals as goal

pub step-requires : goal.step-requires
step-requires g c = record { sound = is_counted _ _ c.self.invariant _ c.count.ensures }

pub invariant_of-self : goal.invariant_of-self
invariant_of-self g c = step_kept _ _ _ (is_counted _ _ c.self.invariant _ c.count.ensures) c.args.tx c.step.result c.step.ensures.answers

pub returns-clause-others : goal.returns-clause-others
returns-clause-others g c = step_others _ _ _ (is_counted _ _ c.self.invariant _ c.count.ensures) c.args.tx c.step.result c.step.ensures.answers

pub returns-clause-base : goal.returns-clause-base
returns-clause-base g c =
    subst (λ m. IfOk c.step.result (λ told. LeavesBase told m (fields_of c.step.new.self) c.args.tx)) (c.count.ensures ∙ ap counted c.self.view_is) (step_leads _ _ _
    (is_counted _ _ c.self.invariant _ c.count.ensures) c.args.tx c.step.result c.step.ensures.answers)
