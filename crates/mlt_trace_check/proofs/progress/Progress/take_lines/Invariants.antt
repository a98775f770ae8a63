-- The lines so far were gone over.
use Rattle.std.proofs.Common.{length}
use Rattle.mlt_trace_check.proofs.Names.{GoesOver}
use Rattle.mlt_trace_check.proofs.progress.Progress.take_lines.Given as goal

abbrev pub invariant-loop-said : goal.invariant-loop-said
invariant-loop-said l = GoesOver l.initial.self l.self l.text l.rest

abbrev pub decreases-loop-said : goal.decreases-loop-said
decreases-loop-said l = length l.rest
