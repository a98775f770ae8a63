use Rattle.std.proofs.Common.{◌≡◌, ◌+◌, length, [], Err, ap, sym, subst, ◌∙◌, rules, arith}
use Rattle.std.proofs.lemmas.Result.{err_from_is_err_and}
use Rattle.mlt_text_words.specs.Lines.{lines}
use Rattle.mlt_script.proofs.Names.{state_of, IsReading, advance, Advances, Gives, Outside}
use Rattle.mlt_script.{specs.Scan.scan, proofs.Forming.readings, proofs.PlainForms.asking_line, proofs.Scanning.goes_on, proofs.Scanning.exits, proofs.Scanning.ends}
use Rattle.mlt_script.proofs.parser.read_lines.Goals as goal

pub read-requires : goal.read-requires
read-requires c =
    let f = c.read_first-reading.ensures.first in
    subst IsReading (sym f.2) (readings f.0)

pub returns-in_err-ask : goal.returns-in_err-ask
returns-in_err-ask c =
    let p = err_from_is_err_and c.from_residual.result c.from_residual.ensures.1 in
    let l = c.loop-rest in
    let f = asking_line l.rest.now c.in-Some.after.now c.in-Some.op c.in-Some.ensures in
    let told = subst (λ x. Advances (Err c.in_err-ask.field-0.0) (l.line + 1) (advance (state_of l.parser) x) (state_of c.ask.new.self)) f.2 c.in_err-ask.ensures in
    rw (p.1, p.2) (exits c.in_err-ask.field-0.0 (state_of l.parser) (state_of c.ask.new.self) l.line l.rest.now c.in-Some.after.now f.0
    (scan (Outside []) 0 (lines c.args.text.now)) f.1 told l.invariant.same)

pub returns-in_err-read : goal.returns-in_err-read
returns-in_err-read c =
    let p = err_from_is_err_and c.from_residual-in_err-read.result c.from_residual-in_err-read.ensures.1 in
    let l = c.loop-rest in
    let f = c.read_first-reading.ensures.first in
    let told = subst (λ x. Advances (Err c.in_err-read.field-0.0) (l.line + 1) (advance (state_of l.parser) x) (state_of c.read.new.self)) f.2 c.in_err-read.ensures in
    rw (p.1, p.2) (exits c.in_err-read.field-0.0 (state_of l.parser) (state_of c.read.new.self) l.line l.rest.now c.read_first-reading.result.1.now f.0
    (scan (Outside []) 0 (lines c.args.text.now)) f.1 told l.invariant.same)

pub loop-rest-preserved-in-Some : goal.loop-rest-preserved-in-Some
loop-rest-preserved-in-Some c =
    let l = c.loop-rest in
    let f = asking_line l.rest.now c.in-Some.after.now c.in-Some.op c.in-Some.ensures in
    record {
      counted = let b = l.invariant.counted in let s = f.3 in omega (arith, b, s);
      same = goes_on (state_of l.parser) (state_of c.ask.new.self) l.line l.rest.now c.in-Some.after.now f.0
          (scan (Outside []) 0 (lines c.args.text.now)) f.1 (ap (advance (state_of l.parser)) (sym f.2) ∙ c.in_ok-ask.ensures) l.invariant.same;
    }

pub loop-rest-preserved : goal.loop-rest-preserved
loop-rest-preserved c =
    let l = c.loop-rest in
    let f = c.read_first-reading.ensures.first in
    record {
      counted = let b = l.invariant.counted in let s = c.read_first-reading.ensures.less in omega (arith, b, s);
      same = goes_on (state_of l.parser) (state_of c.read.new.self) l.line l.rest.now c.read_first-reading.result.1.now f.0
          (scan (Outside []) 0 (lines c.args.text.now)) f.1 (ap (advance (state_of l.parser)) (sym f.2) ∙ c.in_ok-read.ensures) l.invariant.same;
    }

pub returns : goal.returns
returns c =
    let l = c.loop-rest in
    let z : length l.rest.now ≡ 0 = search rules in
    subst (λ wanted. Gives (λ scripts. scripts.items) c.finish.result wanted)
    (ends (state_of l.parser) l.line l.rest.now (scan (Outside []) 0 (lines c.args.text.now)) z l.invariant.same)
    c.finish.ensures
