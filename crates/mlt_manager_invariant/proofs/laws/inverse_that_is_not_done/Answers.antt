use Rattle.mlt_manager_invariant.proofs.Inverting.{inverse_sound}
use Rattle.mlt_manager_invariant.proofs.laws.inverse_that_is_not_done.Goals as goal

pub returns : goal.returns
returns c = inverse_sound
