use Rattle.mlt_manager_invariant.proofs.Calls.{called_sound}
use Rattle.mlt_manager_invariant.proofs.laws.operation_that_is_called.Goals as goal

pub returns : goal.returns
returns c = called_sound
