use Rattle.std.proofs.Common.{◌≡◌, ◌++◌, take}
use Rattle.mlt_work_desk.proofs.locked_state.LockedState.copy_items.Given as goal

-- those that were seen were added
abbrev pub invariant-loop-item : goal.invariant-loop-item
invariant-loop-item g l = l.items.items ≡ l.initial.items.items ++ take l.item-index l.first
