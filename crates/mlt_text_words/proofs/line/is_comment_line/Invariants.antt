use Rattle.std.proofs.Common.{◌≡◌, drop}
use Rattle.mlt_text_words.proofs.Names.{is_comment}
use Rattle.mlt_text_words.proofs.line.is_comment_line.Given as goal

abbrev pub invariant-loop-byte : goal.invariant-loop-byte
invariant-loop-byte l = is_comment (drop l.byte-index l.line) ≡ is_comment l.line
