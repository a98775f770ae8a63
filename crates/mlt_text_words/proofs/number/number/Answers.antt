use Rattle.std.proofs.Common.{rules}
use Rattle.mlt_text_words.proofs.Numerals.{from_start}
use Rattle.mlt_text_words.proofs.number.number.Goals as goal

pub loop-byte-init : goal.loop-byte-init
loop-byte-init c = from_start c.args.word.now (search rules) c.if-word-gt20.false
