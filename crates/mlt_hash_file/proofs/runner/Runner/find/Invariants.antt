use Rattle.mlt_hash_file.proofs.Names.{steps_to_bucket}
use Rattle.mlt_hash_file.proofs.AloneWalks.{IsOnItsWay}
use Rattle.mlt_hash_file.proofs.runner.Runner.find.Given as goal

abbrev pub ghost-step : goal.ghost-step
ghost-step g a = g.since

abbrev pub invariant-loop-found : goal.invariant-loop-found
invariant-loop-found g l = IsOnItsWay g.since g.P.Pseudo.bits_of l.root l.fn.self l.self l.fn.walk l.walk

abbrev pub decreases-loop-found : goal.decreases-loop-found
decreases-loop-found g l = steps_to_bucket l.walk.phase
