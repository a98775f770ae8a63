use Rattle.std.proofs.Common.{ℕ, ◌≤◌, ◌-◌, List, length, sym, subst, le-ltb}
use Rattle.std.proofs.lemmas.Option.{slice_get_past}
use Rattle.mlt_text_words.proofs.Names.{Letter}
use Rattle.mlt_text_words.specs.Letters.{all_letters, letter_of}
use Rattle.mlt_text_words.proofs.letter.find_letter.Goals as goal

pub returns-in-None : goal.returns-in-None
unfolding letter_of
returns-in-None c =
    let found : length all_letters ≤ c.from.result = subst (λ (xs : List Letter). length xs ≤ c.from.result) c.all-letters.ensures c.in-None.ensures.lookup.3 in
    let past : length all_letters ≤ c.args.byte - 97 = subst (λ (n : ℕ). length all_letters ≤ n) c.from.ensures found in
    rw (le-ltb c.args.byte 97 c.if-byte-lt97.false) (sym (slice_get_past all_letters (c.args.byte - 97) past))
