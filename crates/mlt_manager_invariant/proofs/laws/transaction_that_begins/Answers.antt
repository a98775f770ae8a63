use Rattle.mlt_manager_invariant.proofs.Begins.{begin_sound}
use Rattle.mlt_manager_invariant.proofs.laws.transaction_that_begins.Goals as goal

pub returns : goal.returns
returns c = begin_sound
