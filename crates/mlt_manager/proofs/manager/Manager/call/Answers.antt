use Rattle.mlt_manager.proofs.{Keeping.is_counted, Kept.call_kept}
use Rattle.mlt_manager.proofs.manager.Manager.call.Goals as goal

pub invariant_of-self : goal.invariant_of-self
invariant_of-self g c = call_kept _ _ _ (is_counted _ _ c.self.invariant _ c.count.ensures) c.args.tx c.args.op c.call.result c.call.ensures.answers
