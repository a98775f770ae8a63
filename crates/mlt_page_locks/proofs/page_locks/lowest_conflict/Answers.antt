use Rattle.mlt_page_locks.proofs.Covering.{nobody_marked}
use Rattle.mlt_page_locks.proofs.page_locks.lowest_conflict.Goals as goal

pub returns-then-mask-eq0 : goal.returns-then-mask-eq0
returns-then-mask-eq0 c = nobody_marked c.args.tx c.args.page c.args.mode c.args.lists.now c.args.mask c.requires c.if-mask-eq0.true
