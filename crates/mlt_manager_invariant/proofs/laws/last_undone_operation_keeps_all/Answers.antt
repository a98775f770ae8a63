use Rattle.mlt_manager_invariant.proofs.Aborting.{aborted_sound}
use Rattle.mlt_manager_invariant.proofs.laws.last_undone_operation_keeps_all.Goals as goal

pub returns : goal.returns
returns c = aborted_sound
