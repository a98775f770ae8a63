use Rattle.std.proofs.Common.{refl, arith}
use Rattle.mlt_trace_audit.proofs.Loops.{at_end, one_more}
use Rattle.mlt_trace_audit.specs.Telling.{IsWholeIn}
use Rattle.mlt_trace_audit.proofs.ordered.are_whole.Goals.{else-outcome-ne0-via-then-outcome-ne0+else-not-is_whole, else-outcome-ne0-via-else-outcome-ne0}
use Rattle.mlt_trace_audit.proofs.ordered.are_whole.Goals as goal

pub loop-outcome-preserved : goal.loop-outcome-preserved
loop-outcome-preserved c =
    let l = c.loop-outcome in
    let o = c.outcome-item.result in
    let whole : IsWholeIn c.args.told.now o = elim c.else-outcome-ne0.branch [
      | else-outcome-ne0-via-then-outcome-ne0+else-not-is_whole w ↦ (λ some. w.is_whole.ensures.0 w.if-not-is_whole.false)
      | else-outcome-ne0-via-else-outcome-ne0 w ↦ (λ some. absurd (some w.if-outcome-ne0.false))
    ] in
    one_more (IsWholeIn c.args.told.now) c.args.outcomes.now l.outcome-index o c.loop-outcome-test.true c.outcome-item.is l.invariant whole

pub returns : goal.returns
returns c =
    let l = c.loop-outcome in (
      λ yes. at_end (IsWholeIn c.args.told.now) c.args.outcomes.now l.outcome-index (omega (arith, c.loop-outcome-test.false)) l.invariant,
      λ all. refl,
    )
