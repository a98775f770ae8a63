use Rattle.mlt_hash_file.proofs.Names.{steps_to_put, view_over}
use Rattle.mlt_hash_file.proofs.AloneSplits.{IsSplittingOn}
use Rattle.mlt_hash_file.proofs.runner.Runner.split.Given as goal

abbrev pub ghost-step : goal.ghost-step
ghost-step g a = g.since

abbrev pub invariant-loop-answer : goal.invariant-loop-answer
invariant-loop-answer g l = IsSplittingOn g.since g.P.Pseudo.bits_of l.root l.fn.self l.self l.fn.walk l.walk

abbrev pub decreases-loop-answer : goal.decreases-loop-answer
decreases-loop-answer g l = steps_to_put l.root.page l.walk (view_over g.since.written l.self)
