use Rattle.std.proofs.Common.{arith}
use Rattle.mlt_text_words.proofs.{Digits.taken, Fronts.all_of_few, Fronts.digit_there}
use Rattle.mlt_text_words.proofs.front.few_digits.Goals as goal

pub returns-clause-stop : goal.returns-clause-stop
returns-clause-stop c = λ more.
    let d = c.digits_of_few.ensures in
    let there = digit_there c.args.text.now c.digits_of_few.result.1 more in
    let all = all_of_few c.args.text.now c.min-few.result c.digits_of_few.result.1 d.stop more in
    let few = c.min-few.ensures in
    let n = taken c.args.text.now c.min-few.result (omega (arith, few)) in
    let l = d.length in
    omega (arith, there, all, few, n, l)
