use Rattle.std.proofs.Common.{IfOk, ap, subst, ◌∙◌}
use Rattle.mlt_manager.proofs.Names.{UndoingLeavesBase, counted, fields_of}
use Rattle.mlt_manager.proofs.{UndoingBases.whole_undo_leads, Keeping.is_counted, Kept.whole_undo_kept, Others.whole_undo_others}
use Rattle.mlt_manager.proofs.manager.Manager.whole_undo.Goals as goal

pub whole_undo-requires : goal.whole_undo-requires
whole_undo-requires g c = record { sound = is_counted _ _ c.self.invariant _ c.count.ensures }

pub invariant_of-self : goal.invariant_of-self
invariant_of-self g c = whole_undo_kept _ _ _ (is_counted _ _ c.self.invariant _ c.count.ensures) c.args.tx c.whole_undo.result c.whole_undo.ensures.answers

pub returns-clause-others : goal.returns-clause-others
returns-clause-others g c = whole_undo_others _ _ _ (is_counted _ _ c.self.invariant _ c.count.ensures) c.args.tx c.whole_undo.result c.whole_undo.ensures.answers

pub returns-clause-base : goal.returns-clause-base
returns-clause-base g c =
    subst (λ m. IfOk c.whole_undo.result (λ told. UndoingLeavesBase told m (fields_of c.whole_undo.new.self) c.args.tx)) (c.count.ensures ∙ ap counted c.self.view_is)
    (whole_undo_leads _ _ _ c.args.tx (is_counted _ _ c.self.invariant _ c.count.ensures) c.whole_undo.result c.whole_undo.ensures.answers)
