use Rattle.std.proofs.Common.{OnOk, ap, subst, ◌∙◌}
use Rattle.mlt_manager.proofs.Names.{KeepsWhatCounts, counted, fields_of}
use Rattle.mlt_manager.proofs.{WholeBases.cancel_leads, Keeping.is_counted, Kept.cancel_kept}
use Rattle.mlt_manager.proofs.manager.Manager.cancel.Goals as goal

pub cancel-requires : goal.cancel-requires
cancel-requires g c = record { sound = is_counted _ _ c.self.invariant _ c.count.ensures }

pub invariant_of-self : goal.invariant_of-self
invariant_of-self g c = cancel_kept _ _ _ (is_counted _ _ c.self.invariant _ c.count.ensures) c.args.tx c.cancel.result c.cancel.ensures.answers

pub returns-clause-base : goal.returns-clause-base
returns-clause-base g c =
    subst (λ m. OnOk c.cancel.result (KeepsWhatCounts m (fields_of c.cancel.new.self))) (c.count.ensures ∙ ap counted c.self.view_is) (cancel_leads _ _ _ c.args.tx
    (is_counted _ _ c.self.invariant _ c.count.ensures) c.cancel.result c.cancel.ensures.answers)
