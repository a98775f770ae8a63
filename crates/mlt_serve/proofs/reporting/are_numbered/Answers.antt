use Rattle.std.proofs.Common.{◌≤◌, length, arith, refl}
use Rattle.mlt_trace_audit.proofs.Loops.{at_end, one_more}
use Rattle.mlt_serve.proofs.Names.{IsOfClient}
use Rattle.mlt_serve.proofs.Numbering.{all_numbered, numbered_on}
use Rattle.mlt_serve.proofs.reporting.are_numbered.Goals as goal

pub loop-outcome-preserved : goal.loop-outcome-preserved
loop-outcome-preserved c =
    let l = c.loop-outcome in
    let o = c.outcome-item.result in
    let next = c.comes_next.ensures.0 c.if-not-comes_next.false in
    record {
      clients = one_more (IsOfClient c.args.limit) c.args.outcomes.now l.outcome-index o c.loop-outcome-test.true c.outcome-item.is l.invariant.clients next.0;
      numbers = numbered_on c.args.outcomes.now l.outcome-index l.client l.number l.invariant.numbers o c.loop-outcome-test.true c.outcome-item.is next.1;
    }

pub returns : goal.returns
returns c =
    let l = c.loop-outcome in
    let past : length c.args.outcomes.now ≤ l.outcome-index = omega (arith, c.loop-outcome-test.false) in
    (λ _. (at_end (IsOfClient c.args.limit) c.args.outcomes.now l.outcome-index past l.invariant.clients, all_numbered c.args.outcomes.now l.outcome-index l.client l.number l.invariant.numbers past), λ _. refl)
