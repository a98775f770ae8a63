use Rattle.mlt_page_locks.proofs.Pages.{empty_in_order}
use Rattle.mlt_page_locks.proofs.lock_list.LockList.new.Goals as goal

pub invariant_of-result : goal.invariant_of-result
invariant_of-result c = empty_in_order c.new.result.items c.new.ensures
