-- Words of printed lines, read back.
use Rattle.std.proofs.Common.{◌≡◌, ℕ, ◌+◌, ◌%◌, ◌^◌, ◌<◌, ◌≤◌, List, [], ◌∷◌, ◌++◌, length, map, leb, ◌==◌, ◌&&◌, Bool, true, false, cond, Some, None, codes, refl, sym, ap, ◌∙◌, append_assoc, length-append, arith, decimal, bytes_eq, append-nil, lt-ltb, le-leb}
use Rattle.mlt_text_words.proofs.Names.{list_all, Keyword, Word, Number, Letter, is_printable, is_digit, spelling, spelled_among, word_if, raw_words, is_blank, all_keywords}
use Rattle.std.proofs.lemmas.{List.map-append, Fmt.decimal_by_steps, Fmt.decimal_is_IsNumeral, Fmt.decimal_nonempty, Fmt.length-decimal-le}
use Rattle.mlt_text_words.{specs.declared.keyword.Word.TheVariants.Key, specs.declared.keyword.Word.TheVariants.Variable, specs.Letters.byte_of, specs.Letters.letter_of, specs.Fronts.TextIs, specs.Numbers.number_of, proofs.Splitting.at_other}
use Rattle.mlt_text_words.specs.Words.{keyword_of, letter_word, word_of, words_from, words_of}

both : (c : Bool) (w p q r s t : List (List ℕ)) → p ≡ q ++ t → r ≡ s ++ t → cond c (w ++ p) r ≡ cond c (w ++ q) s ++ t
both true w p q r s t e f = ap (λ (x : List (List ℕ)). w ++ x) e ∙ sym (append_assoc w q t)
both false w p q r s t e f = f

at_space : (begun u : List ℕ) → words_from begun (32 ∷ u) ≡ word_if begun ++ words_from [] u
unfolding words_from
at_space begun u = refl

-- the words of two pieces with a space between them
pub words_apart : (t begun u : List ℕ) → words_from begun (t ++ 32 ∷ u) ≡ words_from begun t ++ words_from [] u
unfolding words_from
words_apart [] begun u = at_space begun u
words_apart (b ∷ t) begun u =
    both (is_blank b) (word_if begun) (words_from [] (t ++ 32 ∷ u)) (words_from [] t) (words_from (begun ++ b ∷ []) (t ++ 32 ∷ u)) (words_from (begun ++ b ∷ []) t) (words_from [] u)
    (words_apart t [] u) (words_apart t (begun ++ b ∷ []) u)

pub all_append : (xs ys : List ℕ) → list_all is_printable xs ≡ true → list_all is_printable ys ≡ true → list_all is_printable (xs ++ ys) ≡ true
all_append [] ys h k = k
all_append (x ∷ xs) ys h k = all_more (is_printable x) xs ys h (λ l. all_append xs ys l k) where
  all_more : (b : Bool) (xs ys : List ℕ) → (b && list_all is_printable xs) ≡ true → (list_all is_printable xs ≡ true → list_all is_printable (xs ++ ys) ≡ true) → (b && list_all is_printable (xs ++ ys)) ≡ true
  all_more true xs ys h k = k h
  all_more false xs ys h k = absurd (cc h)

words_more : (t u : List ℕ) (ws vs : List Word) → words_of t ≡ ws → words_of u ≡ vs → words_of (t ++ 32 ∷ u) ≡ ws ++ vs
unfolding words_of
words_more t u ws vs e f =
    ap (map word_of) (words_apart t [] u) ∙ map-append word_of (words_from [] t) (words_from [] u)
    ∙ ap (λ (xs : List Word). xs ++ map word_of (words_from [] u)) e ∙ ap (λ (xs : List Word). ws ++ xs) f

-- two pieces with a space between them
pub beside : (t u : List ℕ) (ws vs : List Word) (n m : ℕ) → TextIs t ws n → TextIs u vs m → TextIs (t ++ 32 ∷ u) (ws ++ vs) (n + 1 + m)
beside t u ws vs n m h k = (
  words_more t u ws vs h.0 k.0,
  all_append t (32 ∷ u) h.1 k.1,
  rw length-append (let p = h.2 in let q = k.2 in omega (arith, p, q)),
)

pub at_most : (t : List ℕ) (ws : List Word) (n m : ℕ) → n ≤ m → TextIs t ws n → TextIs t ws m
at_most t ws n m l h = (h.0, h.1, let p = h.2 in omega (arith, p, l))

-- a keyword
pub key_text : (k : Keyword) → TextIs (spelling k) (Key k ∷ []) 8
unfolding words_of words_from word_of keyword_of
key_text Keyword.Begin = (refl, refl, omega arith)
key_text Keyword.Commit = (refl, refl, omega arith)
key_text Keyword.Abort = (refl, refl, omega arith)
key_text Keyword.Need = (refl, refl, omega arith)
key_text Keyword.Let = (refl, refl, omega arith)
key_text Keyword.If = (refl, refl, omega arith)
key_text Keyword.Else = (refl, refl, omega arith)
key_text Keyword.End = (refl, refl, omega arith)
key_text Keyword.Is = (refl, refl, omega arith)
key_text Keyword.Equals = (refl, refl, omega arith)
key_text Keyword.Open = (refl, refl, omega arith)
key_text Keyword.Close = (refl, refl, omega arith)
key_text Keyword.Deposit = (refl, refl, omega arith)
key_text Keyword.Withdraw = (refl, refl, omega arith)
key_text Keyword.Balance = (refl, refl, omega arith)
key_text Keyword.Add = (refl, refl, omega arith)
key_text Keyword.Remove = (refl, refl, omega arith)
key_text Keyword.Has = (refl, refl, omega arith)
key_text Keyword.Up = (refl, refl, omega arith)
key_text Keyword.Down = (refl, refl, omega arith)
key_text Keyword.Read = (refl, refl, omega arith)
key_text Keyword.Size = (refl, refl, omega arith)
key_text Keyword.Opened = (refl, refl, omega arith)
key_text Keyword.Exists = (refl, refl, omega arith)
key_text Keyword.Closed = (refl, refl, omega arith)
key_text Keyword.NotEmpty = (refl, refl, omega arith)
key_text Keyword.Done = (refl, refl, omega arith)
key_text Keyword.Over = (refl, refl, omega arith)
key_text Keyword.Short = (refl, refl, omega arith)
key_text Keyword.Missing = (refl, refl, omega arith)
key_text Keyword.Added = (refl, refl, omega arith)
key_text Keyword.Present = (refl, refl, omega arith)
key_text Keyword.Removed = (refl, refl, omega arith)
key_text Keyword.Absent = (refl, refl, omega arith)
key_text Keyword.Yes = (refl, refl, omega arith)
key_text Keyword.No = (refl, refl, omega arith)

-- the name of a variable
pub letter_is : (l : Letter) → TextIs (byte_of l ∷ []) (Variable l ∷ []) 1
unfolding words_of words_from word_of keyword_of letter_of
letter_is Letter.A = (refl, refl, omega arith)
letter_is Letter.B = (refl, refl, omega arith)
letter_is Letter.C = (refl, refl, omega arith)
letter_is Letter.D = (refl, refl, omega arith)
letter_is Letter.E = (refl, refl, omega arith)
letter_is Letter.F = (refl, refl, omega arith)
letter_is Letter.G = (refl, refl, omega arith)
letter_is Letter.H = (refl, refl, omega arith)
letter_is Letter.I = (refl, refl, omega arith)
letter_is Letter.J = (refl, refl, omega arith)
letter_is Letter.K = (refl, refl, omega arith)
letter_is Letter.L = (refl, refl, omega arith)
letter_is Letter.M = (refl, refl, omega arith)
letter_is Letter.N = (refl, refl, omega arith)
letter_is Letter.O = (refl, refl, omega arith)
letter_is Letter.P = (refl, refl, omega arith)
letter_is Letter.Q = (refl, refl, omega arith)
letter_is Letter.R = (refl, refl, omega arith)
letter_is Letter.S = (refl, refl, omega arith)
letter_is Letter.T = (refl, refl, omega arith)
letter_is Letter.U = (refl, refl, omega arith)
letter_is Letter.V = (refl, refl, omega arith)
letter_is Letter.W = (refl, refl, omega arith)
letter_is Letter.X = (refl, refl, omega arith)
letter_is Letter.Y = (refl, refl, omega arith)
letter_is Letter.Z = (refl, refl, omega arith)

digit_by : (n : ℕ) → n < 10 → is_digit (48 + n) ≡ true
digit_by n h = rw (le-leb 48 (48 + n) (omega arith), le-leb (48 + n) 57 (omega (arith, h))) refl

digits_append : (xs : List ℕ) (d : ℕ) → list_all is_digit xs ≡ true → is_digit d ≡ true → list_all is_digit (xs ++ d ∷ []) ≡ true
digits_append [] d h k = rw k refl
digits_append (x ∷ xs) d h k = digits_more (is_digit x) xs d h (λ l. digits_append xs d l k) where
  digits_more : (b : Bool) (xs : List ℕ) (d : ℕ) → (b && list_all is_digit xs) ≡ true → (list_all is_digit xs ≡ true → list_all is_digit (xs ++ d ∷ []) ≡ true) → (b && list_all is_digit (xs ++ d ∷ [])) ≡ true
  digits_more true xs d h k = k h
  digits_more false xs d h k = absurd (cc h)

below_ten : (n : ℕ) → n % 10 < 10
below_ten n = omega arith

all_digits : (n : ℕ) → n < 2 ^ 64 → list_all is_digit (decimal n) ≡ true
all_digits n h =
    decimal_by_steps (λ n ds. list_all is_digit ds ≡ true) (λ n l. rw (digit_by n l) refl) (λ n ds l d. digits_append ds (48 + n % 10) d (digit_by (n % 10) (below_ten n))) n h

digit_parts : (b : ℕ) → is_digit b ≡ true → (48 ≤ b) × (b ≤ 57)
digit_parts b h = grind arith

pub digit_no_blank : (b : ℕ) → is_digit b ≡ true → is_blank b ≡ false
digit_no_blank b h = grind arith

digit_printable : (b : ℕ) → is_digit b ≡ true → is_printable b ≡ true
digit_printable b h = let p = digit_parts b h in rw (le-leb 32 b (let q = p.0 in omega (arith, q)), le-leb b 126 (let q = p.1 in omega (arith, q))) refl

pub first_and : (a b : Bool) → (a && b) ≡ true → (a ≡ true) × (b ≡ true)
first_and true b h = (refl, h)
first_and false b h = absurd (cc h)

pub digits_printable : (t : List ℕ) → list_all is_digit t ≡ true → list_all is_printable t ≡ true
digits_printable [] h = refl
digits_printable (b ∷ t) h = let p = first_and (is_digit b) (list_all is_digit t) h in rw (digit_printable b p.0) (digits_printable t p.1)

pub digits_word : (t begun : List ℕ) → list_all is_digit t ≡ true → words_from begun t ≡ word_if (begun ++ t)
unfolding words_from
digits_word [] begun h = ap word_if (sym (append-nil begun))
digits_word (b ∷ t) begun h =
    let p = first_and (is_digit b) (list_all is_digit t) h in
    at_other begun b t (digit_no_blank b p.0) ∙ digits_word t (begun ++ b ∷ []) p.1 ∙ ap word_if (append_assoc begun (b ∷ []) t)

unlike_digit : (c d : ℕ) → leb 58 c ≡ true → is_digit d ≡ true → (c == d) ≡ false
unlike_digit c d h k = grind arith

begins_so : (c d : ℕ) (cs ds : List ℕ) → leb 58 c ≡ true → is_digit d ≡ true → bytes_eq (c ∷ cs) (d ∷ ds) ≡ false
begins_so c d cs ds h k = rw (unlike_digit c d h k) refl

no_keyword : (k : Keyword) (d : ℕ) (ds : List ℕ) → is_digit d ≡ true → bytes_eq (spelling k) (d ∷ ds) ≡ false
no_keyword Keyword.Begin d ds h = begins_so 98 d (codes "egin") ds refl h
no_keyword Keyword.Commit d ds h = begins_so 99 d (codes "ommit") ds refl h
no_keyword Keyword.Abort d ds h = begins_so 97 d (codes "bort") ds refl h
no_keyword Keyword.Need d ds h = begins_so 110 d (codes "eed") ds refl h
no_keyword Keyword.Let d ds h = begins_so 108 d (codes "et") ds refl h
no_keyword Keyword.If d ds h = begins_so 105 d (codes "f") ds refl h
no_keyword Keyword.Else d ds h = begins_so 101 d (codes "lse") ds refl h
no_keyword Keyword.End d ds h = begins_so 101 d (codes "nd") ds refl h
no_keyword Keyword.Is d ds h = begins_so 105 d (codes "s") ds refl h
no_keyword Keyword.Equals d ds h = begins_so 61 d [] ds refl h
no_keyword Keyword.Open d ds h = begins_so 111 d (codes "pen") ds refl h
no_keyword Keyword.Close d ds h = begins_so 99 d (codes "lose") ds refl h
no_keyword Keyword.Deposit d ds h = begins_so 100 d (codes "eposit") ds refl h
no_keyword Keyword.Withdraw d ds h = begins_so 119 d (codes "ithdraw") ds refl h
no_keyword Keyword.Balance d ds h = begins_so 98 d (codes "alance") ds refl h
no_keyword Keyword.Add d ds h = begins_so 97 d (codes "dd") ds refl h
no_keyword Keyword.Remove d ds h = begins_so 114 d (codes "emove") ds refl h
no_keyword Keyword.Has d ds h = begins_so 104 d (codes "as") ds refl h
no_keyword Keyword.Up d ds h = begins_so 117 d (codes "p") ds refl h
no_keyword Keyword.Down d ds h = begins_so 100 d (codes "own") ds refl h
no_keyword Keyword.Read d ds h = begins_so 114 d (codes "ead") ds refl h
no_keyword Keyword.Size d ds h = begins_so 115 d (codes "ize") ds refl h
no_keyword Keyword.Opened d ds h = begins_so 111 d (codes "pened") ds refl h
no_keyword Keyword.Exists d ds h = begins_so 101 d (codes "xists") ds refl h
no_keyword Keyword.Closed d ds h = begins_so 99 d (codes "losed") ds refl h
no_keyword Keyword.NotEmpty d ds h = begins_so 110 d (codes "otempty") ds refl h
no_keyword Keyword.Done d ds h = begins_so 100 d (codes "one") ds refl h
no_keyword Keyword.Over d ds h = begins_so 111 d (codes "ver") ds refl h
no_keyword Keyword.Short d ds h = begins_so 115 d (codes "hort") ds refl h
no_keyword Keyword.Missing d ds h = begins_so 109 d (codes "issing") ds refl h
no_keyword Keyword.Added d ds h = begins_so 97 d (codes "dded") ds refl h
no_keyword Keyword.Present d ds h = begins_so 112 d (codes "resent") ds refl h
no_keyword Keyword.Removed d ds h = begins_so 114 d (codes "emoved") ds refl h
no_keyword Keyword.Absent d ds h = begins_so 97 d (codes "bsent") ds refl h
no_keyword Keyword.Yes d ds h = begins_so 121 d (codes "es") ds refl h
no_keyword Keyword.No d ds h = begins_so 110 d (codes "o") ds refl h

none_among : (keys : List Keyword) (d : ℕ) (ds : List ℕ) → is_digit d ≡ true → spelled_among keys (d ∷ ds) ≡ None
none_among [] d ds h = refl
none_among (k ∷ keys) d ds h = rw (no_keyword k d ds h) (none_among keys d ds h)

not_letter : (d : ℕ) → is_digit d ≡ true → letter_of d ≡ None
unfolding letter_of
not_letter d h = rw (lt-ltb d 97 (let p = (digit_parts d h).1 in omega (arith, p))) refl

not_letter_word : (d : ℕ) (ds : List ℕ) → is_digit d ≡ true → letter_word (d ∷ ds) ≡ None
not_letter_word d [] h = not_letter d h
not_letter_word d (e ∷ ds) h = refl

pub word_is_number : (t : List ℕ) (n : ℕ) → 0 < length t → list_all is_digit t ≡ true → number_of t ≡ Some n → word_of t ≡ Number n
unfolding word_of keyword_of
word_is_number [] n l h e = absurd (omega (arith, l))
word_is_number (d ∷ ds) n l h e =
    let p = first_and (is_digit d) (list_all is_digit ds) h in
    rw (none_among all_keywords d ds p.0, not_letter_word d ds p.0, e) refl

pub number_again : (n : ℕ) → n < 2 ^ 64 → number_of (decimal n) ≡ Some n
unfolding number_of
number_again n h =
    let v = (decimal_is_IsNumeral n h).1 in
    let l : length (decimal n) ≤ 20 = length-decimal-le 20 n (omega arith) (omega (arith, h)) h in
    rw (lt-ltb 0 (length (decimal n)) (decimal_nonempty n h), le-leb (length (decimal n)) 20 l, all_digits n h, v, lt-ltb n (2 ^ 64) h) refl

pub word_alone : (w : List ℕ) → 0 < length w → word_if w ≡ w ∷ []
word_alone [] h = absurd (omega (arith, h))
word_alone (b ∷ bs) h = refl

-- a number is one word
pub number_alone : (n : ℕ) → n < 2 ^ 64 → raw_words (decimal n) ≡ decimal n ∷ []
number_alone n h = digits_word (decimal n) [] (all_digits n h) ∙ word_alone (decimal n) (decimal_nonempty n h)

-- a number
pub number_is : (n : ℕ) → n < 2 ^ 64 → TextIs (decimal n) (Number n ∷ []) 20
unfolding words_of
number_is n h =
    let d = all_digits n h in
    let l = decimal_nonempty n h in (
      ap (map word_of) (number_alone n h) ∙ ap (λ (w : Word). w ∷ []) (word_is_number (decimal n) n l d (number_again n h)),
      digits_printable (decimal n) d,
      length-decimal-le 20 n (omega arith) (omega (arith, h)) h,
    )
