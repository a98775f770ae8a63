use Rattle.std.proofs.Common.{◌≡◌, arith, refl, subst, sym, ◌∙◌, Contains}
use Rattle.mlt_trace_audit.proofs.Names.{All-contains, Begin, IsOnce}
use Rattle.mlt_trace_audit.proofs.{Begun.OfBegin, Begun.begin_there, Begun.begun_there, Loops.at_end, Loops.one_more, any.are_once.Goals.in-Begin+else-not-is_once, any.are_once.Goals.in_default}
use Rattle.mlt_trace_audit.proofs.any.are_once.Goals as goal

pub returns-then-not-is_once : goal.returns-then-not-is_once
returns-then-not-is_once c =
    let history = c.args.history.now in
    let begin = subst (Contains history) (sym c.get-item.ensures ∙ c.in-Begin.is) (c.loop-item.item-index, c.loop-item-test.true, sym c.item-item.is) in
    let there = begun_there history c.in-Begin.tx begin in
    (λ no. absurd (cc no), λ once. absurd (let yes = c.is_once.ensures.1 (subst (IsOnce c.args.outcomes.now) (sym c.tx.view_is) (once c.in-Begin.tx there)) in let no = c.if-not-is_once.true in cc (yes, no)))

pub loop-item-preserved : goal.loop-item-preserved
loop-item-preserved c =
    let l = c.loop-item in
    one_more (OfBegin (IsOnce c.args.outcomes.now)) c.args.history.now l.item-index c.item-item.result c.loop-item-test.true c.item-item.is l.invariant (elim c.match-item.branch [
      | in-Begin+else-not-is_once w ↦ λ tx is.
          let same : w.in-Begin.tx ≡ tx = cc (w.in-Begin.is, c.get-item.ensures, is) in
          subst (IsOnce c.args.outcomes.now) (w.tx.view_is ∙ same) (w.is_once.ensures.0 w.if-not-is_once.false)
      | in_default w ↦ λ tx is. absurd (w.in_default.not-Begin tx (c.get-item.ensures ∙ is))
    ])

pub returns : goal.returns
returns c =
    let all = at_end (OfBegin (IsOnce c.args.outcomes.now)) c.args.history.now c.loop-item.item-index (omega (arith, c.loop-item-test.false)) c.loop-item.invariant in
    (λ _ tx h. All-contains (OfBegin (IsOnce c.args.outcomes.now)) c.args.history.now (Begin tx) all (begin_there c.args.history.now tx h) tx refl, λ _. refl)
