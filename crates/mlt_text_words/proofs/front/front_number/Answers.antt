use Rattle.std.proofs.Common.{◌<◌, arith}
use Rattle.mlt_text_words.proofs.Fronts.{number_before}
use Rattle.mlt_text_words.proofs.front.front_number.Goals as goal

pub returns-else-end-eq0-clause-some : goal.returns-else-end-eq0-clause-some
returns-else-end-eq0-clause-some c =
    let d = c.few_digits-value in
    let e = d.ensures in
    let some : 0 < d.result.1 = let n = c.if-end-eq0.false in omega (arith, n) in
    number_before c.args.text.now d.result.1 d.result.0 some e.length e.few e.digits e.value e.stop
