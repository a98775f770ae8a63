use Rattle.mlt_manager_invariant.proofs.Undoing.{undone_sound}
use Rattle.mlt_manager_invariant.proofs.laws.undone_operation_keeps_all.Goals as goal

pub returns : goal.returns
returns c = undone_sound
