use Rattle.std.proofs.Common.{◌≡◌, drop}
use Rattle.mlt_text_words.{specs.Numbers.number_of, proofs.Numerals.goes_on}
use Rattle.mlt_text_words.proofs.number.number.Given as goal

abbrev pub invariant-loop-byte : goal.invariant-loop-byte
invariant-loop-byte l = goes_on l.value (drop l.byte-index l.word) ≡ number_of l.word
