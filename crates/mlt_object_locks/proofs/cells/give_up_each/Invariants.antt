use Rattle.std.proofs.Common.{take}
use Rattle.mlt_object_locks.proofs.Names.{GivesUp}
use Rattle.mlt_object_locks.proofs.cells.give_up_each.Given as goal

-- those that were seen are given up
abbrev pub invariant-loop-place : goal.invariant-loop-place
invariant-loop-place l = GivesUp l.initial.cells l.cells (take l.place-index l.places) l.kept l.tx
