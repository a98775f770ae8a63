-- What a step on one page is, or a lock of it and a write, seen as one turn. The crates of operations cite these.
use Rattle.std.proofs.Common.{ℕ, ◌≤◌, inl}
use Rattle.mlt_hash_access.proofs.Names.{page_count, LocalState, LocksAtMost, TouchesOnePage, WritesAtMost}
use Rattle.mlt_hash_access.specs.PageTurns.{TakesTurn}

-- **A lock of a page and a write of the same page touch that page alone.**
pub lock_and_write_touch : (old mid new : LocalState) (q : ℕ) → LocksAtMost old mid q → WritesAtMost mid new q → TouchesOnePage old new
lock_and_write_touch old mid new q locks writes = (q, inl (mid, locks, writes))

-- **A step on one page is a turn, where few pages are held then.**
pub step_turns : (old new : LocalState) → TouchesOnePage old new → page_count new.locks old.running.tx ≤ 300 → TakesTurn old new
step_turns old new touches few = record { touches = touches; few = few }
