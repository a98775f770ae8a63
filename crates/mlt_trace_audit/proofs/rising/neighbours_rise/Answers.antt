use Rattle.std.proofs.Common.{length, refl, sym, subst, ◌∙◌, arith}
use Rattle.mlt_trace_audit.proofs.Names.{RisesTo, same_Some, slice_get_read}
use Rattle.std.proofs.lemmas.{Bool.iff_false}
use Rattle.mlt_trace_audit.proofs.CommitOrder.{rise_all, rise_by_commit, rise_by_other}
use Rattle.mlt_trace_audit.proofs.rising.neighbours_rise.Goals as goal
use Rattle.mlt_trace_audit.proofs.rising.neighbours_rise.Goals.{then-is_committed+else-not-rises_to, else-is_committed}

pub loop-i-preserved : goal.loop-i-preserved
loop-i-preserved c =
    let l = c.loop-i in
    let outcomes = c.args.outcomes.now in
    let here = c.index-outcomes-i.result in
    let at_here = slice_get_read outcomes (length outcomes) l.i here refl c.loop-i-test.true c.index-outcomes-i.is in
    elim c.if-is_committed.branch [
      | then-is_committed+else-not-rises_to w ↦
          let final = w.index-outcomes-last.result in
          let again = w.index-outcomes-i-then-is_committed.result in
          let commits = c.is_committed.ensures.0 w.if-is_committed.true in
          let at_final = slice_get_read outcomes (length outcomes) l.last final refl (omega (arith, l.invariant.within, c.loop-i-test.true)) w.index-outcomes-last.is in
          let at_again = slice_get_read outcomes (length outcomes) l.i again refl c.loop-i-test.true w.index-outcomes-i-then-is_committed.is in
          let next : RisesTo final here = subst (λ o. RisesTo final o) (same_Some again here (sym at_again ∙ at_here)) (w.rises_to.ensures.0 w.if-not-rises_to.false) in
          record {
            within = omega (arith, w.last-is);
            rise = rw w.last-is (rise_by_commit outcomes c.requires l.last l.i here at_here l.invariant.rise final at_final commits.0 commits.1 next);
          }
      | else-is_committed w ↦ record {
        within = omega (arith, w.last-is, l.invariant.within);
        rise = rw w.last-is (rise_by_other outcomes c.requires l.last l.i here at_here l.invariant.rise (iff_false c.is_committed.ensures w.if-is_committed.false));
      }
    ]

pub returns : goal.returns
returns c =
    let l = c.loop-i in
    (λ _. rise_all c.args.outcomes.now l.last l.i c.requires (omega (arith, c.loop-i-test.false)) l.invariant.rise, λ _. refl)
