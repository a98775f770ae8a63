use Rattle.mlt_page_locks.proofs.Pages.{empty_in_order}
use Rattle.mlt_page_locks.proofs.lock_list.LockList.clear.Goals as goal

pub invariant_of-self : goal.invariant_of-self
invariant_of-self c = empty_in_order c.clear.new.self.items c.clear.ensures
