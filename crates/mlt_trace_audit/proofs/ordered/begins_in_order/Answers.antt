use Rattle.std.proofs.Common.{◌≡◌, [], ◌∷◌, arith, ap, subst, sym, ◌∙◌}
use Rattle.mlt_trace_audit.proofs.Names.{Begin, begin_count, StandsBehind, slice_get_within}
use Rattle.mlt_trace_audit.proofs.{Begun.begin_count_more, Begun.no_begin_counted, Orderly.ordered_more}
use Rattle.mlt_trace_audit.proofs.ordered.begins_in_order.Goals.{in-Begin, in_default}
use Rattle.mlt_trace_audit.proofs.ordered.begins_in_order.Goals as goal

pub loop-item-preserved : goal.loop-item-preserved
loop-item-preserved c =
    let l = c.loop-item in
    let here = subst (λ item. StandsBehind l.begun item) c.get-item.ensures (c.stands_behind.ensures.0 c.if-not-stands_behind.false) in
    let stands = subst (λ n. StandsBehind n c.item-item.result) l.invariant.counted here in
    let ordered = ordered_more c.args.history.now l.item-index c.item-item.result c.loop-item-test.true c.item-item.is stands l.invariant.ordered in
    let more = begin_count_more c.args.history.now l.item-index c.item-item.result c.loop-item-test.true c.item-item.is in
    elim c.match-item.branch [
      | in-Begin w ↦
          let begin : Begin w.in-Begin.field-0 ≡ c.item-item.result = sym w.in-Begin.is ∙ c.get-item.ensures in
          let one = ap (λ x. begin_count (x ∷ [])) (sym begin) in
          record {
            counted = rw w.begun-is (omega (arith, more, one, l.invariant.counted));
            few = rw w.begun-is (omega (arith, l.invariant.few));
            ordered = ordered;
          }
      | in_default w ↦
          let none = no_begin_counted c.item-item.result (λ own is. w.in_default.not-Begin own (c.get-item.ensures ∙ is)) in
          record {
            counted = rw w.begun-is (omega (arith, more, none, l.invariant.counted));
            few = rw w.begun-is (omega (arith, l.invariant.few));
            ordered = ordered;
          }
    ]

pub returns-clause-ordered : goal.returns-clause-ordered
returns-clause-ordered c = λ k item found.
    let within = slice_get_within c.args.history.now k item found in
    c.loop-item.invariant.ordered k item (omega (arith, within, c.loop-item-test.false)) found
