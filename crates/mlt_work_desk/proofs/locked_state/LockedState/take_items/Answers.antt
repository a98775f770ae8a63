use Rattle.mlt_work_desk.proofs.Playing.{still_made}
use Rattle.mlt_work_desk.proofs.locked_state.LockedState.take_items.Goals as goal

pub invariant_of-self-clause-made_by : goal.invariant_of-self-clause-made_by
invariant_of-self-clause-made_by g c = still_made _ c.args.self.now.manager c.take_history.new.self c.take_history.ensures.rest c.args.self.now.made_by
