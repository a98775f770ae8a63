use Rattle.mlt_page_locks.proofs.Bits.{next_is, unmarked_before}
use Rattle.mlt_page_locks.proofs.marks.next_place.Goals as goal

pub returns-then-place-end : goal.returns-then-place-end
returns-then-place-end c = next_is c.args.mask c.args.start c.ranges.mask.fits c.args.end c.requires c.if-place-end.true

pub returns-else-place-end : goal.returns-else-place-end
returns-else-place-end c = unmarked_before c.args.mask c.args.start c.ranges.mask.fits c.args.end c.if-place-end.false
