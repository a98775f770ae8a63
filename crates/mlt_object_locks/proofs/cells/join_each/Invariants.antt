use Rattle.std.proofs.Common.{take}
use Rattle.mlt_object_locks.proofs.Names.{IsHereAt, JoinsAt}
use Rattle.mlt_object_locks.proofs.cells.join_each.Given as goal

-- the transaction came at those that were seen
abbrev pub invariant-loop-place : goal.invariant-loop-place
invariant-loop-place l = JoinsAt l.initial.cells l.cells (take l.place-index l.places) l.tx × IsHereAt l.cells (take l.place-index l.places) l.tx
