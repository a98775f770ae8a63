use Rattle.std.proofs.Common.{◌≡◌, ◌≤◌, take}
use Rattle.mlt_trace_audit.proofs.Names.{begin_count}
use Rattle.mlt_trace_audit.proofs.Orderly.{AreOrderedTo}
use Rattle.mlt_trace_audit.proofs.ordered.begins_in_order.Given as goal

abbrev pub invariant-loop-item : goal.invariant-loop-item
invariant-loop-item l = record {
  counted : l.begun ≡ begin_count (take l.item-index l.history);
  few : l.begun ≤ l.item-index;
  ordered : AreOrderedTo l.history l.item-index;
}
