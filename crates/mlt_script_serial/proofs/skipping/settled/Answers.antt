use Rattle.std.proofs.Common.{◌≡◌, List, [], arith, sym, ◌∙◌, ap, drop}
use Rattle.mlt_script_serial.proofs.Names.{drop_all, Nowhere, Line}
use Rattle.mlt_script_serial.{proofs.Running.some_line, specs.Runs.run, proofs.Running.at_end, proofs.Running.turn}
use Rattle.mlt_script_serial.proofs.skipping.settled.Goals as goal

pub loop-place-preserved : goal.loop-place-preserved
loop-place-preserved c =
    let l = c.loop-place in
    record {
      from = let f = l.invariant.from in omega (arith, f);
      within = let t = c.loop-place-test.true in omega (arith, t);
      deep = let d = l.invariant.deep in let p = c.skip-skipping.ensures.level in omega (arith, d, p);
      same = λ vs end. rw c.skip-skipping.ensures.skipped
          (turn c.args.lines.now l.place l.skipping some_line vs end c.loop-place-test.true (sym c.stops.ensures ∙ c.if-stops.false) ∙ l.invariant.same vs end);
    }

pub returns-clause-same : goal.returns-clause-same
returns-clause-same c = λ vs end.
    let l = c.loop-place in
    let e : drop l.place c.args.lines.now ≡ [] = drop_all l.place c.args.lines.now (let t = c.loop-place-test.false in omega (arith, t)) in
    ap (λ (ls : List Line). run ls Nowhere vs end) e ∙ sym (at_end l.skipping vs end) ∙ ap (λ (ls : List Line). run ls l.skipping vs end) (sym e) ∙ l.invariant.same vs end
