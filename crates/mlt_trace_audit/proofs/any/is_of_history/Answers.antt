use Rattle.std.proofs.Common.{◌+◌, ◌++◌, ◌∷◌, [], drop, sym, subst, take, ap, ◌∙◌}
use Rattle.mlt_trace_audit.proofs.Names.{tx_of}
use Rattle.mlt_trace_audit.proofs.Telling.{nothing_of_other, parted, taken, told_nothing}
use Rattle.mlt_trace_audit.specs.{Outcomes.IsClosedSo, Telling.HasTold}
use Rattle.mlt_trace_audit.proofs.any.is_of_history.Goals.{else-tx_of-outcome-via-then-tx_of-outcome+else-not-goes_on, else-tx_of-outcome-via-else-tx_of-outcome}
use Rattle.mlt_trace_audit.proofs.any.is_of_history.Goals as goal

pub returns-then-not-goes_on : goal.returns-then-not-goes_on
returns-then-not-goes_on c =
    let l = c.loop-item in
    let o = c.args.outcome.now in
    let history = c.args.history.now in
    let item = c.item-item.result in (
      λ no. absurd (cc no),
      λ closed.
          let whole = subst (λ items. IsClosedSo o.tx o.done o.end items) (sym (parted history l.item-index item c.loop-item-test.true c.item-item.is)) (closed c.if-outcome-eq0.false) in
          let whole' = subst (λ item. IsClosedSo o.tx o.done o.end (take l.item-index history ++ item ∷ drop (l.item-index + 1) history)) (sym c.get-item.ensures) whole in
          absurd (c.goes_on.ensures.other c.if-not-goes_on.true (take l.item-index history) (drop (l.item-index + 1) history) l.invariant whole'),
    )

pub loop-item-preserved : goal.loop-item-preserved
loop-item-preserved c =
    let l = c.loop-item in
    let o = c.args.outcome.now in
    let history = c.args.history.now in
    let item = c.item-item.result in
    let front = sym (taken history l.item-index item c.loop-item-test.true c.item-item.is) in
    elim c.else-tx_of-outcome.branch [
      | else-tx_of-outcome-via-then-tx_of-outcome+else-not-goes_on w ↦
          let told = subst (λ item. HasTold o (take l.item-index history ++ item ∷ []) w.goes_on.new.self) c.get-item.ensures (w.goes_on.ensures.told w.if-not-goes_on.false (take l.item-index history) l.invariant) in
          rw w.progress-is (subst (λ items. HasTold o items w.goes_on.new.self) front told)
      | else-tx_of-outcome-via-else-tx_of-outcome w ↦
          let told = told_nothing o (take l.item-index history) l.progress l.invariant item (nothing_of_other o.tx item (λ same. w.if-tx_of-outcome.false (c.tx_of.ensures ∙ ap tx_of c.get-item.ensures ∙ sym same))) in
          rw w.progress-is (subst (λ items. HasTold o items l.progress) front told)
    ]
