use Rattle.std.proofs.Common.{◌≡◌, true, is_some, subst, sym, arith}
use Rattle.std.specs.FinMap as map
use Rattle.mlt_page_locks.proofs.Names.{Modes, IsMarked}
use Rattle.mlt_page_locks.proofs.Pages.{no_such_page}
use Rattle.mlt_page_locks.proofs.page_locks.unmark_pages.Goals as goal

pub returns-clause-gone : goal.returns-clause-gone
returns-clause-gone c = λ q there marked.
    no_such_page c.locks-lock-items.result.now q (λ n. IsMarked c.loop-lock.pages n c.args.place) (λ k d h. c.loop-lock.invariant.gone k d (omega arith))
    (subst (λ (m : Modes). is_some (map.get m q) ≡ true) (sym c.locks-lock-items.ensures) there) marked
