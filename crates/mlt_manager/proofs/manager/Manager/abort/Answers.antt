use Rattle.mlt_manager.proofs.{Keeping.is_counted, Kept.abort_kept}
use Rattle.mlt_manager.proofs.manager.Manager.abort.Goals as goal

pub abort-requires : goal.abort-requires
abort-requires g c = record { sound = is_counted _ _ c.self.invariant _ c.count.ensures }

pub invariant_of-self : goal.invariant_of-self
invariant_of-self g c = abort_kept _ _ _ (is_counted _ _ c.self.invariant _ c.count.ensures) c.args.tx c.abort.result c.abort.ensures.answers
