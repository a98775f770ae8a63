use Rattle.std.proofs.Common.{IfOk, ap, subst, ◌∙◌}
use Rattle.mlt_manager.proofs.Names.{WholeLeavesBase, counted, fields_of}
use Rattle.mlt_manager.proofs.{WholeBases.whole_leads, Keeping.is_counted, Kept.whole_kept, Others.whole_others}
use Rattle.mlt_manager.proofs.manager.Manager.whole.Goals as goal

pub whole-requires : goal.whole-requires
whole-requires g c = record { sound = is_counted _ _ c.self.invariant _ c.count.ensures }

pub invariant_of-self : goal.invariant_of-self
invariant_of-self g c = whole_kept _ _ _ (is_counted _ _ c.self.invariant _ c.count.ensures) c.args.tx c.args.op c.whole.result c.whole.ensures.answers

pub returns-clause-others : goal.returns-clause-others
returns-clause-others g c = whole_others _ _ _ (is_counted _ _ c.self.invariant _ c.count.ensures) c.args.tx c.args.op c.whole.result c.whole.ensures.answers

pub returns-clause-base : goal.returns-clause-base
returns-clause-base g c =
    subst (λ m. IfOk c.whole.result (λ told. WholeLeavesBase told m (fields_of c.whole.new.self) c.args.tx c.args.op)) (c.count.ensures ∙ ap counted c.self.view_is)
    (whole_leads _ _ _ c.args.tx c.args.op (is_counted _ _ c.self.invariant _ c.count.ensures) c.whole.result c.whole.ensures.answers)
