use Rattle.std.proofs.Common.{◌≡◌, length, true, false, rules, sym, ◌∙◌, bytes_eq}
use Rattle.mlt_text_words.proofs.Names.{spelling}
use Rattle.mlt_text_words.proofs.Keywords.{empty_word, no_word, same_word, other_word}
use Rattle.mlt_text_words.proofs.keyword.find_keyword.Goals as goal

pub returns-then-is_empty : goal.returns-then-is_empty
returns-then-is_empty c = let e : length c.args.word.now ≡ 0 = search rules in sym (empty_word c.args.word.now e)

pub returns-in_err-keyword : goal.returns-in_err-keyword
returns-in_err-keyword c = c.from_residual.ensures ∙ sym (no_word c.args.word.now (sym c.in_err-keyword.ensures))

pub returns-then-eq : goal.returns-then-eq
returns-then-eq c =
    let is : bytes_eq (spelling c.in_ok-keyword.keyword) c.args.word.now ≡ true = search rules in
    sym (same_word c.args.word.now c.in_ok-keyword.keyword is)

pub returns-else-eq : goal.returns-else-eq
returns-else-eq c =
    let is_not : bytes_eq (spelling c.in_ok-keyword.keyword) c.args.word.now ≡ false = search rules in
    sym (other_word c.args.word.now c.in_ok-keyword.keyword (sym c.in_ok-keyword.ensures) is_not)
