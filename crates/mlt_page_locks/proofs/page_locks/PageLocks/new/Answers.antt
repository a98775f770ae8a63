use Rattle.std.proofs.Common.{◌≡◌, ap, ◌∙◌, arith}
use Rattle.mlt_page_locks.proofs.Names.{no_locks}
use Rattle.mlt_page_locks.proofs.{Tables.blank_lists, Covering.covers_free}
use Rattle.mlt_page_locks.proofs.page_locks.PageLocks.new.Goals as goal

pub invariant_of-result : goal.invariant_of-result
invariant_of-result c = record {
  sound = (blank_lists c.loop.lists.items c.loop.counter c.loop.invariant).1;
  covers = covers_free c.loop.lists.items c.loop.counter c.in_ok-pages.pages c.in_ok-holders.holders (omega arith) c.loop.invariant;
}

pub returns-clause-empty : goal.returns-clause-empty
returns-clause-empty c =
    let all : c.loop.counter ≡ c.args.limits.now.max_open = omega arith in
    (blank_lists c.loop.lists.items c.loop.counter c.loop.invariant).0 ∙ ap no_locks all
