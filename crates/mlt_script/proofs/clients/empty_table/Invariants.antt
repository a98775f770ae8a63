use Rattle.std.proofs.Common.{◌≡◌, ◌≤◌, ◌-◌, [], length, map, replicate}
use Rattle.mlt_script.proofs.clients.empty_table.Given as goal

abbrev pub invariant-loop-alloc : goal.invariant-loop-alloc
invariant-loop-alloc l = record {
  few : length l.table.items ≤ 1000;
  empty : map (λ list. list.items) l.table.items ≡ replicate (length l.table.items) [];
}

abbrev pub decreases-loop-alloc : goal.decreases-loop-alloc
decreases-loop-alloc l = 1000 - length l.table.items
