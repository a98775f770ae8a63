-- Digits at the front of a text.
use Rattle.std.proofs.Common.{◌≡◌, ℕ, suc, zero, ◌+◌, ◌-◌, ◌^◌, ◌<◌, ◌≤◌, List, [], ◌∷◌, ◌++◌, length, take, drop, map, Bool, true, false, cond, not, Some, None, refl, sym, ap, subst, ◌∙◌, append_assoc, arith, position, bytes_eq, ltb-false, take-append-drop, take_all}
use Rattle.mlt_text_words.proofs.Names.{list_all, position_or_len, digit_value, digits_value, bytes_eq-Decides, Keyword, Word, Number, is_comment, is_digit, all_keywords, spelled_among, spelling}
use Rattle.std.{specs.List.prefix_len, specs.Str.Parse.AllDigits, proofs.Math.Nat.pow-le-pow_right, proofs.lemmas.Int.Digits.digits_value-lt}
use Rattle.mlt_text_words.specs.Fronts.{BeginsWithNumber, BeginsWithWords, begins_with_digit, front_letters, is_letter, is_no_letter}
use Rattle.mlt_text_words.{specs.Numbers.number_of, specs.Words.keyword_of, specs.Words.word_of, specs.Words.words_of, proofs.Digits.writes, proofs.Digits.taken, proofs.Splitting.none_found, proofs.Splitting.to_the_end}
use Rattle.mlt_text_words.proofs.Pieces.{beside, digits_printable, digits_word, first_and, word_alone, word_is_number}

digit_below : (b : ℕ) → is_digit b ≡ true → digit_value b < 10
digit_below b h = grind arith

all_digits : (ds : List ℕ) → list_all is_digit ds ≡ true → AllDigits 10 ds
all_digits [] h = tt
all_digits (b ∷ ds) h = let p = first_and (is_digit b) (list_all is_digit ds) h in (digit_below b p.0, all_digits ds p.1)

-- so few digits write no greater number
pub below_power : (ds : List ℕ) (n : ℕ) → list_all is_digit ds ≡ true → length ds ≤ n → digits_value 10 ds < 10 ^ n
below_power ds n h l =
    let p = digits_value-lt 10 ds (all_digits ds h) in
    let q : 10 ^ length ds ≤ 10 ^ n = pow-le-pow_right (omega arith) l in
    omega (arith, p, q)

pub short_value : (text : List ℕ) (end value : ℕ) → length text ≤ 19 → end < length text → list_all is_digit (take end text) ≡ true → value ≡ digits_value 10 (take end text)
    → value < 1000000000000000000
short_value text end value f l d v =
    let n : length (take end text) ≡ end = taken text end (omega arith) in
    let b : digits_value 10 (take end text) < 10 ^ 18 = below_power (take end text) 18 d (omega (arith, n, f, l)) in
    omega (arith, b, v)

pub number_few : (ds : List ℕ) (value : ℕ) → 0 < length ds → length ds ≤ 19 → list_all is_digit ds ≡ true → value ≡ digits_value 10 ds → number_of ds ≡ Some value
number_few ds value l f d v =
    let b : digits_value 10 ds < 10 ^ 19 = below_power ds 19 d f in
    let h : value < 2 ^ 64 = omega (arith, b, v) in
    writes ds value l (omega (arith, f)) d v h

-- so many digits at the front, and the rest
pub number_before : (text : List ℕ) (end value : ℕ) → 0 < end → end ≤ length text → end ≤ 19 → list_all is_digit (take end text) ≡ true → value ≡ digits_value 10 (take end text)
    → (begins_with_digit (drop end text) ≡ true → end ≡ 19) → BeginsWithNumber text value (take (length text - end) (drop end text))
number_before text end value p l f d v s =
    let n : length (take end text) ≡ end = taken text end l in
    let some : 0 < length (take end text) = omega (arith, n, p) in
    let few : length (take end text) ≤ 19 = omega (arith, n, f) in
    let w : number_of (take end text) ≡ Some value = number_few (take end text) value some few d v in
    rw (to_the_end text end) (take end text, sym (take-append-drop end text), d, w, (some, few), λ h. n ∙ s h)

-- where a digit stands there is no end
pub digit_there : (text : List ℕ) (i : ℕ) → begins_with_digit (drop i text) ≡ true → i < length text
digit_there [] zero h = absurd (cc h)
digit_there [] (suc i) h = absurd (cc h)
digit_there (b ∷ bs) zero h = omega arith
digit_there (b ∷ bs) (suc i) h = let l = digit_there bs i h in omega (arith, l)

-- where digits go on behind the first n bytes, and not within these, all n are digits
pub all_of_few : (text : List ℕ) (n i : ℕ) → begins_with_digit (drop i (take n text)) ≡ false → begins_with_digit (drop i text) ≡ true → n ≤ i
all_of_few [] n zero f t = absurd (cc t)
all_of_few [] n (suc i) f t = absurd (cc t)
all_of_few (b ∷ bs) zero i f t = omega arith
all_of_few (b ∷ bs) (suc n) zero f t = absurd (let e : false ≡ true = sym f ∙ t in cc e)
all_of_few (b ∷ bs) (suc n) (suc i) f t = let l = all_of_few bs n i f t in omega (arith, l)

-- digits that write a number are its word
pub number_words : (text rest : List ℕ) (n : ℕ) → BeginsWithNumber text n rest → BeginsWithWords text (Number n ∷ []) 20 rest
unfolding words_of
number_words text rest n (ds, is, digits, value, few, all) = (
  ds,
  is,
  (
    ap (map word_of) (digits_word ds [] digits ∙ word_alone ds few.0) ∙ ap (λ (w : Word). w ∷ []) (word_is_number ds n few.0 digits value),
    digits_printable ds digits,
    let l = few.1 in omega (arith, l),
  ),
)

-- a piece, a space and another piece
pub words_then : (text middle rest : List ℕ) (ws vs : List Word) (n m : ℕ) → BeginsWithWords text ws n (32 ∷ middle) → BeginsWithWords middle vs m rest
    → BeginsWithWords text (ws ++ vs) (n + 1 + m) rest
words_then text middle rest ws vs n m (t, e, h) (u, f, k) = (
  t ++ 32 ∷ u,
  e ∙ ap (λ (xs : List ℕ). t ++ 32 ∷ xs) f ∙ sym (append_assoc t (32 ∷ u) rest),
  beside t u ws vs n m h k,
)

pub spelled_so : (keys : List Keyword) (bytes : List ℕ) (k : Keyword) → spelled_among keys bytes ≡ Some k → spelling k ≡ bytes
spelled_so [] bytes k h = absurd (cc h)
spelled_so (x ∷ keys) bytes k h = first_or (bytes_eq (spelling x) bytes) refl h (spelled_so keys bytes k) where
  first_or : (b : Bool) → bytes_eq (spelling x) bytes ≡ b → cond b (Some x) (spelled_among keys bytes) ≡ Some k
      → (spelled_among keys bytes ≡ Some k → spelling k ≡ bytes) → spelling k ≡ bytes
  first_or true e h rest = let same : x ≡ k = cc h in subst (λ y. spelling y ≡ bytes) same ((bytes_eq-Decides (spelling x) bytes).0 e)
  first_or false e h rest = rest h

-- a keyword that the front of a text spells
pub spelled_before : (text front rest : List ℕ) (k : Keyword) → text ≡ front ++ rest → Some k ≡ keyword_of front → text ≡ spelling k ++ rest
unfolding keyword_of
spelled_before text front rest k e h = e ∙ ap (λ (xs : List ℕ). xs ++ rest) (sym (spelled_so all_keywords front k (sym h)))

letters_len : (text : List ℕ) → position_or_len is_no_letter text ≡ prefix_len is_letter text
letters_len [] = refl
letters_len (b ∷ bs) = by (is_letter b) _ _ (letters_len bs) where
  by : (c : Bool) (m n : ℕ) → m ≡ n → cond (not (not c)) (1 + m) 0 ≡ cond c (1 + n) 0
  by true m n e = ap (λ (k : ℕ). 1 + k) e
  by false m n e = refl

found_at : (b : Bool) (i end : ℕ) → cond b (Some i) None ≡ Some end → end ≡ i
found_at true i end e = cc
found_at false i end e = absurd (cc e)

-- the bytes before the first one that is no small letter
pub letters_before : (text : List ℕ) (end : ℕ) → position is_no_letter text ≡ Some end → take end text ≡ front_letters text
letters_before text end e = ap (λ (n : ℕ). take n text) (found_at _ _ end e ∙ letters_len text)

-- a text of small letters alone
pub letters_alone : (text : List ℕ) → position is_no_letter text ≡ None → text ≡ front_letters text
letters_alone text e =
    let h : length text ≤ position_or_len is_no_letter text = ltb-false _ _ (none_found _ _ e) in
    let s = letters_len text in
    sym (take_all (prefix_len is_letter text) text (omega (arith, h, s)))

pub parted : (text : List ℕ) (end : ℕ) → text ≡ take end text ++ take (length text - end) (drop end text)
parted text end = rw (to_the_end text end) (sym (take-append-drop end text))

-- what begins with a keyword is no comment
pub no_comment : (k : Keyword) (rest : List ℕ) → is_comment (spelling k ++ rest) ≡ false
no_comment Keyword.Begin rest = refl
no_comment Keyword.Commit rest = refl
no_comment Keyword.Abort rest = refl
no_comment Keyword.Need rest = refl
no_comment Keyword.Let rest = refl
no_comment Keyword.If rest = refl
no_comment Keyword.Else rest = refl
no_comment Keyword.End rest = refl
no_comment Keyword.Is rest = refl
no_comment Keyword.Equals rest = refl
no_comment Keyword.Open rest = refl
no_comment Keyword.Close rest = refl
no_comment Keyword.Deposit rest = refl
no_comment Keyword.Withdraw rest = refl
no_comment Keyword.Balance rest = refl
no_comment Keyword.Add rest = refl
no_comment Keyword.Remove rest = refl
no_comment Keyword.Has rest = refl
no_comment Keyword.Up rest = refl
no_comment Keyword.Down rest = refl
no_comment Keyword.Read rest = refl
no_comment Keyword.Size rest = refl
no_comment Keyword.Opened rest = refl
no_comment Keyword.Exists rest = refl
no_comment Keyword.Closed rest = refl
no_comment Keyword.NotEmpty rest = refl
no_comment Keyword.Done rest = refl
no_comment Keyword.Over rest = refl
no_comment Keyword.Short rest = refl
no_comment Keyword.Missing rest = refl
no_comment Keyword.Added rest = refl
no_comment Keyword.Present rest = refl
no_comment Keyword.Removed rest = refl
no_comment Keyword.Absent rest = refl
no_comment Keyword.Yes rest = refl
no_comment Keyword.No rest = refl
