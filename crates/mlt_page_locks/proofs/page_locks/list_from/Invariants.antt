use Rattle.std.proofs.Common.{◌≡◌, ◌<◌, ◌-◌, ℕ, false, get_or, length}
use Rattle.mlt_page_locks.proofs.Names.{HeldPages, is_list_of}
use Rattle.mlt_page_locks.proofs.page_locks.list_from.Given as goal

-- none so far is that of the transaction
abbrev pub invariant-loop-place : goal.invariant-loop-place
invariant-loop-place l = (k : ℕ) (d : HeldPages) → k < l.start → is_list_of l.tx (get_or l.lists k d) ≡ false

abbrev pub decreases-loop-place : goal.decreases-loop-place
decreases-loop-place l = length l.lists - l.start
