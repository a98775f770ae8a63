use Rattle.mlt_manager_invariant.proofs.Done.{done_sound}
use Rattle.mlt_manager_invariant.proofs.laws.operation_that_is_done.Goals as goal

pub returns : goal.returns
returns c = done_sound
