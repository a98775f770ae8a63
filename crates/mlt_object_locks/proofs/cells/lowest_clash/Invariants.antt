use Rattle.std.proofs.Common.{take}
use Rattle.mlt_object_locks.proofs.Names.{IsLowestOf, StandsAtOne}
use Rattle.mlt_object_locks.proofs.cells.lowest_clash.Given as goal

-- the lowest of those at the places that were seen
abbrev pub invariant-loop-place : goal.invariant-loop-place
invariant-loop-place l = IsLowestOf (StandsAtOne l.cells (take l.place-index l.places) l.tx l.done) l.lowest
