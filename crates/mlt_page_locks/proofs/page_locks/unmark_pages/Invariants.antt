use Rattle.std.proofs.Common.{◌<◌, ℕ, get_or}
use Rattle.mlt_page_locks.proofs.Names.{PageLock, IsMarked, KeepsOthers}
use Rattle.mlt_page_locks.proofs.page_locks.unmark_pages.Given as goal

abbrev pub invariant-loop-lock : goal.invariant-loop-lock
invariant-loop-lock l = record {
  gone : (k : ℕ) (d : PageLock) → k < l.lock-index → IsMarked l.pages (get_or l.lock-items k d).page l.place → ⊥;
  others : KeepsOthers l.initial.pages l.pages l.place;
}
