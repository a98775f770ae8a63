use Rattle.mlt_manager_invariant.proofs.Aborts.{abort_sound}
use Rattle.mlt_manager_invariant.proofs.laws.abort_that_begins.Goals as goal

pub returns : goal.returns
returns c = abort_sound
