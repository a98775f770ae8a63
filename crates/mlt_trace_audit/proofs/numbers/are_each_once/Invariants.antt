use Rattle.std.proofs.Common.{◌≡◌, length}
use Rattle.mlt_trace_audit.proofs.Places.{ArePlacedSoFar}
use Rattle.mlt_trace_audit.proofs.numbers.are_each_once.Given as goal

abbrev pub invariant-loop-i : goal.invariant-loop-i
invariant-loop-i l = record {
  size : length l.places ≡ length l.fn.places;
  placed : ArePlacedSoFar l.places l.outcomes l.i;
}
