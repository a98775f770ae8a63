use Rattle.mlt_page_locks.proofs.Places.{takes_free}
use Rattle.mlt_page_locks.proofs.page_locks.start_list.Goals as goal

pub returns-clause-place : goal.returns-clause-place
returns-clause-place c =
    takes_free c.args.lists.now.items c.deref.result.now c.args.tx c.in-Some.place c.index_mut.result.now c.give_to.new.self
    c.deref.ensures.value c.in-Some.ensures c.index_mut.ensures.value c.give_to.ensures
