use Rattle.mlt_manager_invariant.proofs.Calls.{cancelled_sound}
use Rattle.mlt_manager_invariant.proofs.laws.operation_that_is_cancelled.Goals as goal

pub returns : goal.returns
returns c = cancelled_sound
