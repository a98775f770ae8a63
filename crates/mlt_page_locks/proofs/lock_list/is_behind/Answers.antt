use Rattle.std.proofs.Common.{◌-◌, ap, length, arith}
use Rattle.mlt_page_locks.proofs.Names.{nat_tests, PageLock}
use Rattle.mlt_page_locks.proofs.Pages.{all_lower}
use Rattle.mlt_page_locks.proofs.lock_list.is_behind.Goals as goal

pub returns-in-Some : goal.returns-in-Some
returns-in-Some c =
    let locks = c.args.locks.now in
    let last = c.in-Some.last.now in
    let item = c.in-Some.ensures.item in
    let page = ap (λ (l : PageLock). l.page) c.last-in-Some.view_is in
    let q = c.page.view_is in (
      λ lower. all_lower locks c.args.page last c.requires item.3.0 item.1 (grind (arith, nat_tests, page, q)),
      λ between. grind (arith, nat_tests, page, q, between.below (length locks - 1) last (omega arith), ap (λ (l : PageLock). l.page) item.1),
    )
