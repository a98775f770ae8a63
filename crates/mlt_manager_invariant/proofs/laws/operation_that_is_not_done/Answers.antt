use Rattle.mlt_manager_invariant.proofs.Pending.{not_done_sound}
use Rattle.mlt_manager_invariant.proofs.laws.operation_that_is_not_done.Goals as goal

pub returns : goal.returns
returns c = not_done_sound
