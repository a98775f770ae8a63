-- A number at the front of a text, read digit by digit.
use Rattle.std.proofs.Common.{◌≡◌, ℕ, suc, zero, ◌+◌, ◌-◌, ◌*◌, ◌^◌, ◌<◌, ◌≤◌, List, [], ◌∷◌, ◌++◌, length, take, drop, get_or, map, true, Some, refl, sym, ap, subst, ◌∙◌, append_assoc, arith, position, append-nil, lt-ltb, le-leb}
use Rattle.mlt_text_words.proofs.Names.{list_all, digits_value, digit_value, Word, Number, is_digit, word_at, word_if, raw_words, is_black}
use Rattle.std.proofs.lemmas.{List.Folds.list_all_more, Int.Digits.digits_value_more}
use Rattle.mlt_text_words.{specs.Numbers.number_of, specs.Words.word_of, specs.Words.words_from, specs.Words.words_of, specs.Words.is_over, proofs.Numerals.digit_is, proofs.Pieces.first_and, proofs.Pieces.digit_no_blank, proofs.Pieces.word_is_number}
use Rattle.mlt_text_words.proofs.Splitting.{at_blank, at_other, at_word, is_word, to_the_end}

-- digits of a word, up to its end
up_to : (front begun : List ℕ) (i : ℕ) → i ≤ length front → list_all is_digit (take i front) ≡ true → is_over (drop i front) ≡ true
    → words_from begun front ≡ word_if (begun ++ take i front) ++ words_from [] (drop i front)
unfolding words_from
up_to [] begun zero h d o = ap word_if (sym (append-nil begun)) ∙ sym (append-nil (word_if (begun ++ [])))
up_to [] begun (suc i) h d o = absurd (omega arith)
up_to (b ∷ bs) begun zero h d o = at_blank begun b bs o ∙ ap (λ (w : List ℕ). word_if w ++ words_from [] (b ∷ bs)) (sym (append-nil begun))
up_to (b ∷ bs) begun (suc i) h d o =
    let p = first_and (is_digit b) (list_all is_digit (take i bs)) d in
    at_other begun b bs (digit_no_blank b p.0) ∙ up_to bs (begun ++ b ∷ []) i (omega arith) p.1 o
    ∙ ap (λ (w : List ℕ). word_if w ++ words_from [] (drop i bs)) (append_assoc begun (b ∷ []) (take i bs))

pub taken : (front : List ℕ) (i : ℕ) → i ≤ length front → length (take i front) ≡ i
taken [] zero h = refl
taken [] (suc i) h = absurd (omega arith)
taken (b ∷ bs) zero h = refl
taken (b ∷ bs) (suc i) h = ap suc (taken bs i (omega arith))

pub writes : (word : List ℕ) (value : ℕ) → 0 < length word → length word ≤ 20 → list_all is_digit word ≡ true → value ≡ digits_value 10 word → value < 2 ^ 64
    → number_of word ≡ Some value
unfolding number_of
writes word value l g d v h = rw (lt-ltb 0 (length word) l, le-leb (length word) 20 g, d, sym v, lt-ltb value (2 ^ 64) h) refl

-- the first word of a text is the number that its digits write
pub number_first : (text front rest : List ℕ) (start end value : ℕ) → front ≡ take (length text - start) (drop start text) → position is_black text ≡ Some start
    → rest ≡ take (length front - end) (drop end front) → 0 < end → end ≤ 20 → end ≤ length front → list_all is_digit (take end front) ≡ true
    → value ≡ digits_value 10 (take end front) → value < 2 ^ 64 → is_over rest ≡ true → word_at (words_of text) ≡ Some (Number value, words_of rest)
unfolding words_of
number_first text front rest start end value f s r l g e d v h o =
    let a = at_word text start s in
    let same : drop start text ≡ front = sym (to_the_end text start) ∙ sym f in
    let behind : rest ≡ drop end front = r ∙ to_the_end front end in
    let n : length (take end front) ≡ end = taken front end e in
    let some : 0 < length (take end front) = omega (arith, n, l) in
    let few : length (take end front) ≤ 20 = omega (arith, n, g) in
    let k : raw_words front ≡ take end front ∷ raw_words (drop end front) =
    up_to front [] end e d (ap is_over (sym behind) ∙ o) ∙ ap (λ (ws : List (List ℕ)). ws ++ words_from [] (drop end front)) (is_word (take end front) some) in
    let w : word_of (take end front) ≡ Number value = word_is_number (take end front) value some d (writes (take end front) value some few d v h) in
    ap (λ (ws : List (List ℕ)). word_at (map word_of ws)) (a.0 ∙ ap raw_words same ∙ k)
    ∙ ap (λ (x : Word). Some (x, words_of (drop end front))) w ∙ ap (λ (bs : List ℕ). Some (Number value, words_of bs)) (sym behind)

pub is_digit_by : (b : ℕ) → 48 ≤ b → b ≤ 57 → is_digit b ≡ true
is_digit_by b l g = rw (le-leb 48 b l, le-leb b 57 g) refl

-- one more digit at the index
pub digits_more : (text : List ℕ) (end index : ℕ) → end ≡ index → index < length text → 48 ≤ get_or text index 0 → get_or text index 0 ≤ 57
    → list_all is_digit (take end text) ≡ true → list_all is_digit (take (end + 1) text) ≡ true
digits_more text end index e h l g d =
    rw e (rw (list_all_more is_digit text index 0 h, is_digit_by (get_or text index 0) l g, subst (λ (i : ℕ). list_all is_digit (take i text) ≡ true) e d) refl)

pub value_more : (text : List ℕ) (end index value digit : ℕ) → end ≡ index → index < length text → 48 ≤ get_or text index 0 → get_or text index 0 ≤ 57
    → value ≡ digits_value 10 (take end text) → digit ≡ get_or text index 0 - 48 → value * 10 + digit ≡ digits_value 10 (take (end + 1) text)
value_more text end index value digit e h l g v f =
    let more : digits_value 10 (take (index + 1) text) ≡ digits_value 10 (take index text) * 10 + digit_value (get_or text index 0) = digits_value_more 10 text index h in
    let d : digit_value (get_or text index 0) ≡ get_or text index 0 - 48 = digit_is (get_or text index 0) (is_digit_by (get_or text index 0) l g) in
    let w : value ≡ digits_value 10 (take index text) = subst (λ (i : ℕ). value ≡ digits_value 10 (take i text)) e v in
    rw e (omega (arith, more, d, w, f))
