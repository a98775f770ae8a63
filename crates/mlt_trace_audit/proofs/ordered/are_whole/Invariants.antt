use Rattle.std.proofs.Common.{All, take}
use Rattle.mlt_trace_audit.specs.Telling.{IsWholeIn}
use Rattle.mlt_trace_audit.proofs.ordered.are_whole.Given as goal

abbrev pub invariant-loop-outcome : goal.invariant-loop-outcome
invariant-loop-outcome l = All (IsWholeIn l.told) (take l.outcome-index l.outcomes)
