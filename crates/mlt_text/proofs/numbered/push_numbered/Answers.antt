use Rattle.std.proofs.Common.{◌≤◌, decimal, length, length-drop, length-take, rules, arith}
use Rattle.std.proofs.lemmas.Fmt.{length-decimal-le}
use Rattle.mlt_text.proofs.numbered.push_numbered.Goals as goal

pub write_digits-digits-requires : goal.write_digits-digits-requires
write_digits-digits-requires c =
    let few : length (decimal c.args.number) ≤ 20 = search (rules, length-decimal-le 20) in
    omega (arith, few)

pub overflow_sub-start : goal.overflow_sub-start
overflow_sub-start c =
    let few : length (decimal c.args.number) ≤ 20 = search (rules, length-decimal-le 20) in
    let start = c.write_digits-digits.ensures.start in
    omega (arith, few, start)

pub copy_from_slice-requires : goal.copy_from_slice-requires
copy_from_slice-requires c =
    let few : length (decimal c.args.number) ≤ 20 = search (rules, length-decimal-le 20) in
    let start = c.write_digits-digits.ensures.start in
    let whole = c.write_digits-digits.auto.buf in
    simp (length-take, length-drop) (omega (arith, few, start, whole))
