use Rattle.std.proofs.Common.{◌+◌, ◌≤◌, length, take}
use Rattle.mlt_object_locks.proofs.Names.{bit_of_item, GrantsAt, NotesEach, SameNoted, noted_of}
use Rattle.mlt_object_locks.proofs.cells.grant_each.Given as goal

-- The operation stands at those that were seen, which are noted. There is room for the others.
abbrev pub invariant-loop-place : goal.invariant-loop-place
invariant-loop-place l = record {
  grants : GrantsAt l.initial.cells l.cells (take l.place-index l.places) l.tx (bit_of_item l.done);
  others : SameNoted l.initial.noted l.noted l.tx;
  notes : NotesEach (noted_of l.initial.noted l.tx).keys (noted_of l.noted l.tx).keys (take l.place-index l.places);
  room : length l.places ≤ (noted_of l.noted l.tx).room + l.place-index;
}
