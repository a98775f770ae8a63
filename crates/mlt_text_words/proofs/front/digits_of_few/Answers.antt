use Rattle.std.proofs.Common.{◌≡◌, ◌<◌, ◌≤◌, ◌-◌, get_or, length, arith}
use Rattle.mlt_text_words.proofs.{Digits.digits_more, Digits.value_more, Fronts.short_value}
use Rattle.mlt_text_words.proofs.front.digits_of_few.Goals as goal

pub overflow_mul-value : goal.overflow_mul-value
overflow_mul-value c =
    let i = c.loop-byte.invariant in
    let b = short_value c.args.text.now c.loop-byte.end c.loop-byte.value c.requires (omega arith) i.digits i.value in
    omega (arith, b)

pub overflow_add-value : goal.overflow_add-value
overflow_add-value c =
    let i = c.loop-byte.invariant in
    let b = short_value c.args.text.now c.loop-byte.end c.loop-byte.value c.requires (omega arith) i.digits i.value in
    omega (arith, b)

pub loop-byte-preserved : goal.loop-byte-preserved
loop-byte-preserved c =
    let l = c.loop-byte in
    let i = l.invariant in
    let byte = get_or c.args.text.now l.byte-index 0 in
    let small = c.type_inv.text l.byte-index in
    let d = c.if-digit-gt9.false in
    let low : 48 ≤ byte = omega (arith, small, d) in
    let high : byte ≤ 57 = omega (arith, small, d) in
    let digit : c.from.result ≡ byte - 48 = let f = c.from.ensures in omega (arith, small, d, f) in
    record {
      counted = let e = i.counted in omega (arith, e);
      digits = digits_more c.args.text.now l.end l.byte-index i.counted c.loop-byte-test.true low high i.digits;
      value = value_more c.args.text.now l.end l.byte-index l.value c.from.result i.counted c.loop-byte-test.true low high i.value digit;
    }
