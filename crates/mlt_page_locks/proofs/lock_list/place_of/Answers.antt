use Rattle.std.proofs.Common.{rules, subst, nat_cmp}
use Rattle.mlt_page_locks.proofs.Names.{IsBinarySearchResult}
use Rattle.std.proofs.lemmas.Fn.{always_returns_same}
use Rattle.mlt_page_locks.proofs.Pages.{placed}
use Rattle.mlt_page_locks.proofs.lock_list.place_of.Goals as goal

pub returns : goal.returns
returns c =
    let found = c.binary_search_by_key.ensures in
    placed c.args.locks.now c.args.page c.binary_search_by_key.result c.requires found.bound
    (subst (λ q. IsBinarySearchResult (λ lock. nat_cmp lock.page q) c.args.locks.now c.binary_search_by_key.result) c.page.view_is
    (found.position (λ lock. lock.page) (always_returns_same _ _ _ (λ a r f' k. search rules))))
