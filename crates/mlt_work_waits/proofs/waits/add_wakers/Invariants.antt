use Rattle.std.proofs.Common.{◌≡◌, ◌++◌, ◌+◌, ◌≤◌, length, take}
use Rattle.mlt_work_waits.specs.Waits.{wakers_in}
use Rattle.mlt_work_waits.proofs.waits.add_wakers.Given as goal

-- the wakers of those that were seen
abbrev pub invariant-loop-wait : goal.invariant-loop-wait
invariant-loop-wait l = record {
  wakes : l.wakers.items ≡ l.initial.wakers.items ++ wakers_in l.whose (take l.wait-index l.waits);
  few : length l.wakers.items ≤ length l.initial.wakers.items + l.wait-index;
}
