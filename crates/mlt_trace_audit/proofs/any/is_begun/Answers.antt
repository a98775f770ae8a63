use Rattle.std.proofs.Common.{◌≡◌, ◌≢◌, arith, refl, subst, sym, ◌∙◌, Contains}
use Rattle.mlt_trace_audit.proofs.Names.{All-contains, Begin, begun_txs}
use Rattle.mlt_trace_audit.proofs.{Begun.OfBegin, Begun.begin_there, Begun.begun_there, Loops.at_end, Loops.one_more, any.is_begun.Goals.in-Begin+else-own-tx, any.is_begun.Goals.in_default}
use Rattle.mlt_trace_audit.proofs.any.is_begun.Goals as goal

pub returns-then-own-tx : goal.returns-then-own-tx
returns-then-own-tx c =
    let history = c.args.history.now in
    let begin = subst (Contains history) (sym c.get-item.ensures ∙ c.in-Begin.is) (c.loop-item.item-index, c.loop-item-test.true, sym c.item-item.is) in
    (λ _. subst (Contains (begun_txs history)) (sym c.own.view_is ∙ c.if-own-tx.true) (begun_there history c.in-Begin.own begin), λ _. refl)

pub loop-item-preserved : goal.loop-item-preserved
loop-item-preserved c =
    let l = c.loop-item in
    one_more (OfBegin (λ own. own ≢ c.args.tx)) c.args.history.now l.item-index c.item-item.result c.loop-item-test.true c.item-item.is l.invariant (elim c.match-item.branch [
      | in-Begin+else-own-tx w ↦ λ own is e.
          let same : w.in-Begin.own ≡ own = cc (w.in-Begin.is, c.get-item.ensures, is) in
          w.if-own-tx.false (w.own.view_is ∙ same ∙ e)
      | in_default w ↦ λ own is. absurd (w.in_default.not-Begin own (c.get-item.ensures ∙ is))
    ])

pub returns : goal.returns
returns c =
    let all = at_end (OfBegin (λ own. own ≢ c.args.tx)) c.args.history.now c.loop-item.item-index (omega (arith, c.loop-item-test.false)) c.loop-item.invariant in
    (λ no. absurd (cc no), λ h. absurd (All-contains (OfBegin (λ own. own ≢ c.args.tx)) c.args.history.now (Begin c.args.tx) all (begin_there c.args.history.now c.args.tx h) c.args.tx refl refl))
