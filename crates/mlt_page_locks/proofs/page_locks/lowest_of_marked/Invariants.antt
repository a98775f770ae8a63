use Rattle.std.proofs.Common.{◌≤◌, ◌-◌, take, length}
use Rattle.mlt_page_locks.proofs.Conflicts.{in_way_of, IsLowestIfAny}
use Rattle.mlt_page_locks.proofs.page_locks.lowest_of_marked.Given as goal

abbrev pub invariant-loop-place : goal.invariant-loop-place
invariant-loop-place l = record {
  within : l.start ≤ length l.lists;
  lowest_so_far : IsLowestIfAny (in_way_of l.tx l.page l.mode (take l.start l.lists)) l.lowest;
}

abbrev pub decreases-loop-place : goal.decreases-loop-place
decreases-loop-place l = length l.lists - l.start
