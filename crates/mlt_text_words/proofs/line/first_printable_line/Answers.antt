use Rattle.std.proofs.Common.{◌≡◌, sym, get_or, true, arith}
use Rattle.mlt_text_words.proofs.Names.{is_lf}
use Rattle.mlt_text_words.proofs.Cutting.{printable}
use Rattle.mlt_text_words.proofs.line.first_printable_line.Goals as goal

pub returns-then-text-end-eq10-clause-first : goal.returns-then-text-end-eq10-clause-first
returns-then-text-end-eq10-clause-first c =
    let t = c.if-text-end-eq10.true in
    let lf : is_lf (get_or c.args.text.now c.in_ok-end.end 0) ≡ true = grind (arith, t) in
    (printable c.args.text.now c.in_ok-end.end (sym c.in_ok-end.ensures) lf).0

pub returns-then-text-end-eq10-clause-allowed : goal.returns-then-text-end-eq10-clause-allowed
returns-then-text-end-eq10-clause-allowed c =
    let t = c.if-text-end-eq10.true in
    let lf : is_lf (get_or c.args.text.now c.in_ok-end.end 0) ≡ true = grind (arith, t) in
    (printable c.args.text.now c.in_ok-end.end (sym c.in_ok-end.ensures) lf).1
