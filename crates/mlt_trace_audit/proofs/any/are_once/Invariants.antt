use Rattle.std.proofs.Common.{All, take}
use Rattle.mlt_trace_audit.{specs.Agreement.IsOnce, proofs.Begun.OfBegin}
use Rattle.mlt_trace_audit.proofs.any.are_once.Given as goal

abbrev pub invariant-loop-item : goal.invariant-loop-item
invariant-loop-item l = All (OfBegin (IsOnce l.outcomes)) (take l.item-index l.history)
