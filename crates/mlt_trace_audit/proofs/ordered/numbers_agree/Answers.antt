use Rattle.std.proofs.Common.{length, rules}
use Rattle.std.proofs.lemmas.Bool.{iff_false}
use Rattle.mlt_trace_audit.proofs.{Counts.numbers_are, Orderly.begun_in_order}
use Rattle.mlt_trace_audit.proofs.ordered.numbers_agree.Goals as goal

pub returns-then-are_at_most : goal.returns-then-are_at_most
returns-then-are_at_most c =
    let numbers = numbers_are c.args.history.now (begun_in_order c.args.history.now c.requires.ordered) c.args.outcomes.now (length c.args.places.now) c.requires.size in
    record {
      size = c.are_each_once.ensures.size;
      agree = (λ yes. numbers.1 (c.are_at_most.ensures.0 c.if-are_at_most.true, c.are_each_once.ensures.once.0 yes), λ agree. c.are_each_once.ensures.once.1 (numbers.0 agree).1);
      places = c.are_each_once.ensures.places;
    }

pub returns-else-are_at_most-clause-agree : goal.returns-else-are_at_most-clause-agree
returns-else-are_at_most-clause-agree c =
    let numbers = numbers_are c.args.history.now (begun_in_order c.args.history.now c.requires.ordered) c.args.outcomes.now (length c.args.places.now) c.requires.size in
    search (rules, numbers, iff_false c.are_at_most.ensures c.if-are_at_most.false)
