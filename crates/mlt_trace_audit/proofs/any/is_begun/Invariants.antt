use Rattle.std.proofs.Common.{◌≢◌, All, take}
use Rattle.mlt_trace_audit.proofs.Begun.{OfBegin}
use Rattle.mlt_trace_audit.proofs.any.is_begun.Given as goal

abbrev pub invariant-loop-item : goal.invariant-loop-item
invariant-loop-item l = All (OfBegin (λ own. own ≢ l.tx)) (take l.item-index l.history)
