use Rattle.std.proofs.Common.{[]}
use Rattle.mlt_work_desk.specs.LogHandles.{past_of}
use Rattle.mlt_work_desk.proofs.locked_state.LockedState.compare.Given as goal

abbrev pub ghosts-see : goal.ghosts-see
ghosts-see g a = record { past = past_of a.writer.now; begun = [] }
