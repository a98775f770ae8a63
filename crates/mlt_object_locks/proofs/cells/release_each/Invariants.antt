use Rattle.std.proofs.Common.{◌-◌, drop, length}
use Rattle.mlt_object_locks.proofs.Names.{ReleasesAt}
use Rattle.mlt_object_locks.proofs.cells.release_each.Given as goal

-- those that were seen, which are the last, are released
abbrev pub invariant-loop-later : goal.invariant-loop-later
invariant-loop-later l = ReleasesAt l.initial.cells l.cells (drop (length l.keys - l.later) l.keys) l.tx
