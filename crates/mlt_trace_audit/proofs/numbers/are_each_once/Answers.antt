use Rattle.std.proofs.Common.{◌-◌, ◌+◌, ◌<◌, ap, get_or, length, slice_set, arith, ◌∙◌}
use Rattle.std.proofs.lemmas.List.{length-set}
use Rattle.mlt_trace_audit.proofs.Places.{ArePlacedSoFar, all_placed, placed_more, placed_other, placed_twice, places_named}
use Rattle.mlt_trace_audit.proofs.numbers.are_each_once.Goals.{then-tx-gt0+then-tx-places+else-places-number-ne0, else-tx-gt0, else-tx-gt0-via-then-tx-gt0+else-tx-places, else-tx-gt0-via-else-tx-gt0}
use Rattle.mlt_trace_audit.proofs.numbers.are_each_once.Goals as goal

pub returns-then-places-number-ne0-clause-once : goal.returns-then-places-number-ne0-clause-once
returns-then-places-number-ne0-clause-once c =
    let l = c.loop-i in
    let o = get_or c.args.outcomes.now l.i c.index-outcomes-i.result in
    let is = ap (λ o. get_or c.args.outcomes.now l.i o) c.index-outcomes-i.is in (
      λ no. absurd (cc no),
      λ once. absurd (placed_twice c.args.outcomes.now l.i o c.loop-i-test.true is l.places l.invariant.placed
          c.if-tx-gt0.true (omega (arith, c.if-tx-places.true)) (omega (arith, c.if-places-number-ne0.true)) (λ k few. once k (omega (arith, few, l.invariant.size)))),
    )

pub loop-i-preserved : goal.loop-i-preserved
loop-i-preserved c =
    let l = c.loop-i in
    let outcomes = c.args.outcomes.now in
    let o = get_or outcomes l.i c.index-outcomes-i.result in
    let is = ap (λ o. get_or outcomes l.i o) c.index-outcomes-i.is in
    elim c.if-tx-gt0.branch [
      | then-tx-gt0+then-tx-places+else-places-number-ne0 w ↦
          let placed : ArePlacedSoFar (slice_set l.places (o.tx - 1) (l.i + 1)) outcomes (l.i + 1) =
          placed_more outcomes l.i o c.loop-i-test.true is l.places w.if-tx-gt0.true (omega (arith, w.if-tx-places.true)) (omega (arith, w.if-places-number-ne0.false)) l.invariant.placed in
          rw w.places-is (record { size = length-set l.places (o.tx - 1) (l.i + 1) ∙ l.invariant.size; placed = placed })
      | else-tx-gt0 w ↦
          let out : 0 < o.tx → length l.places < o.tx = elim w.else-tx-gt0.branch [
            | else-tx-gt0-via-then-tx-gt0+else-tx-places v ↦ (λ low. omega (arith, v.if-tx-places.false))
            | else-tx-gt0-via-else-tx-gt0 v ↦ (λ low. absurd (omega (arith, low, v.if-tx-gt0.false)))
          ] in
          rw w.places-is (record { size = l.invariant.size; placed = placed_other outcomes l.i o c.loop-i-test.true is l.places out l.invariant.placed })
    ]

pub returns-clause-once : goal.returns-clause-once
returns-clause-once c =
    let l = c.loop-i in
    let all = all_placed l.places c.args.outcomes.now l.i (omega (arith, c.loop-i-test.false)) l.invariant.placed in (
      λ yes k few. all.0 (c.are_set.ensures.0 yes) k (omega (arith, few, l.invariant.size)),
      λ once. c.are_set.ensures.1 (all.1 (λ k few. once k (omega (arith, few, l.invariant.size)))),
    )

pub returns-clause-places : goal.returns-clause-places
returns-clause-places c = λ yes.
    let l = c.loop-i in
    places_named l.places c.args.outcomes.now l.i (omega (arith, c.loop-i-test.false)) l.invariant.placed (c.are_set.ensures.0 yes)
