use Rattle.std.proofs.Common.{◌≤◌}
use Rattle.mlt_trace_audit.proofs.CommitOrder.{RiseBelow}
use Rattle.mlt_trace_audit.proofs.rising.neighbours_rise.Given as goal

abbrev pub invariant-loop-i : goal.invariant-loop-i
invariant-loop-i l = record {
  within : l.last ≤ l.i;
  rise : RiseBelow l.outcomes l.last l.i;
}
