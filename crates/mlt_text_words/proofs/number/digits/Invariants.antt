use Rattle.std.proofs.Common.{◌≡◌, take, true}
use Rattle.mlt_text_words.proofs.Names.{list_all, digits_value, is_digit}
use Rattle.mlt_text_words.proofs.number.digits.Given as goal

abbrev pub invariant-loop-byte : goal.invariant-loop-byte
invariant-loop-byte l = record {
  counted : l.end ≡ l.byte-index;
  digits : list_all is_digit (take l.end l.text) ≡ true;
  value : l.value ≡ digits_value 10 (take l.end l.text);
}
