use Rattle.mlt_manager_invariant.proofs.Opening.{opening_sound}
use Rattle.mlt_manager_invariant.proofs.laws.opening_state_is_sound.Goals as goal

pub returns : goal.returns
returns c = opening_sound
