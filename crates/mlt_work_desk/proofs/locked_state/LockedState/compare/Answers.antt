use Rattle.mlt_work_desk.proofs.Playing.{same_made}
use Rattle.mlt_work_desk.proofs.locked_state.LockedState.compare.Goals as goal

pub invariant_of-self-clause-made_by : goal.invariant_of-self-clause-made_by
invariant_of-self-clause-made_by g c = same_made _ _ c.args.self.now.manager c.see.ensures.all c.args.self.now.made_by
