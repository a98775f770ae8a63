use Rattle.std.proofs.Common.{◌≡◌, length, take}
use Rattle.mlt_trace_audit.proofs.Told.{HaveTold}
use Rattle.mlt_trace_audit.proofs.ordered.are_told.Given as goal

abbrev pub invariant-loop-item : goal.invariant-loop-item
invariant-loop-item l = record {
  size : length l.told ≡ length l.places;
  told : HaveTold l.outcomes l.places l.told (take l.item-index l.history);
}
