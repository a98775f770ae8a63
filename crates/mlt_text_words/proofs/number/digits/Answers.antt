use Rattle.std.proofs.Common.{arith}
use Rattle.mlt_text_words.proofs.Digits.{digits_more, value_more}
use Rattle.mlt_text_words.proofs.number.digits.Goals as goal

pub loop-byte-preserved : goal.loop-byte-preserved
loop-byte-preserved c =
    let l = c.loop-byte in
    let i = l.invariant in
    record {
      counted = let e = i.counted in omega (arith, e);
      digits = digits_more c.args.text.now l.end l.byte-index i.counted c.loop-byte-test.true c.if-byte-lt48.false c.if-byte-gt57.false i.digits;
      value = value_more c.args.text.now l.end l.byte-index l.value c.from.result i.counted c.loop-byte-test.true c.if-byte-lt48.false c.if-byte-gt57.false i.value
          c.from.ensures;
    }
