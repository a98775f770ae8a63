use Rattle.std.proofs.Common.{◌≡◌, ℕ, ◌<◌, Some, slice_get}
use Rattle.mlt_trace_audit.proofs.Names.{Outcome}
use Rattle.mlt_trace_audit.specs.Orders.{Precedes}
use Rattle.mlt_trace_audit.proofs.rising.are_in_order.Given as goal

abbrev pub invariant-loop-i : goal.invariant-loop-i
invariant-loop-i l =
    (j k : ℕ) (one other : Outcome) → slice_get l.outcomes j ≡ Some one → slice_get l.outcomes k ≡ Some other → j < k → k < l.i → Precedes one other
