-- Each keyword is found by its ends.
use Rattle.std.proofs.Common.{◌≡◌, ℕ, ◌-◌, List, [], ◌∷◌, length, get_or, find, true, false, Option, Some, None, refl, sym, ap, ◌∙◌, arith, bytes_eq}
use Rattle.mlt_text_words.proofs.Names.{bytes_eq-Decides, Keyword, all_keywords, spelled_among, spelling}
use Rattle.mlt_text_words.{specs.Words.has_ends, specs.Words.keyword_of, proofs.Fronts.spelled_so}

-- the first keyword with the ends of a word
abbrev pub alike : List ℕ → Option Keyword
alike word = find (has_ends (get_or word 0 0) (length word) (get_or word (length word - 1) 0)) all_keywords

-- a keyword is found by its ends, and by its spelling
found : (k : Keyword) → (alike (spelling k) ≡ Some k) × (spelled_among all_keywords (spelling k) ≡ Some k)
found Keyword.Begin = (refl, refl)
found Keyword.Commit = (refl, refl)
found Keyword.Abort = (refl, refl)
found Keyword.Need = (refl, refl)
found Keyword.Let = (refl, refl)
found Keyword.If = (refl, refl)
found Keyword.Else = (refl, refl)
found Keyword.End = (refl, refl)
found Keyword.Is = (refl, refl)
found Keyword.Equals = (refl, refl)
found Keyword.Open = (refl, refl)
found Keyword.Close = (refl, refl)
found Keyword.Deposit = (refl, refl)
found Keyword.Withdraw = (refl, refl)
found Keyword.Balance = (refl, refl)
found Keyword.Add = (refl, refl)
found Keyword.Remove = (refl, refl)
found Keyword.Has = (refl, refl)
found Keyword.Up = (refl, refl)
found Keyword.Down = (refl, refl)
found Keyword.Read = (refl, refl)
found Keyword.Size = (refl, refl)
found Keyword.Opened = (refl, refl)
found Keyword.Exists = (refl, refl)
found Keyword.Closed = (refl, refl)
found Keyword.NotEmpty = (refl, refl)
found Keyword.Done = (refl, refl)
found Keyword.Over = (refl, refl)
found Keyword.Short = (refl, refl)
found Keyword.Missing = (refl, refl)
found Keyword.Added = (refl, refl)
found Keyword.Present = (refl, refl)
found Keyword.Removed = (refl, refl)
found Keyword.Absent = (refl, refl)
found Keyword.Yes = (refl, refl)
found Keyword.No = (refl, refl)

pub empty_word : (word : List ℕ) → length word ≡ 0 → keyword_of word ≡ None
unfolding keyword_of
empty_word [] e = refl
empty_word (b ∷ bs) e = absurd (omega arith)

-- where no keyword has its ends, the word is none
pub no_word : (word : List ℕ) → alike word ≡ None → keyword_of word ≡ None
unfolding keyword_of
no_word word e = by (spelled_among all_keywords word) refl where
  by : (r : Option Keyword) → spelled_among all_keywords word ≡ r → r ≡ None
  by None h = refl
  by (Some k) h = absurd (let s = spelled_so all_keywords word k h in let f : Some k ≡ None = sym ((found k).0) ∙ ap alike s ∙ e in cc f)

-- the word is the keyword that it is spelled as
pub same_word : (word : List ℕ) (k : Keyword) → bytes_eq (spelling k) word ≡ true → keyword_of word ≡ Some k
unfolding keyword_of
same_word word k h = sym (ap (spelled_among all_keywords) ((bytes_eq-Decides (spelling k) word).0 h)) ∙ (found k).1

-- a word that is not the keyword with its ends is none
pub other_word : (word : List ℕ) (k : Keyword) → alike word ≡ Some k → bytes_eq (spelling k) word ≡ false → keyword_of word ≡ None
unfolding keyword_of
other_word word k e n = by (spelled_among all_keywords word) refl where
  by : (r : Option Keyword) → spelled_among all_keywords word ≡ r → r ≡ None
  by None h = refl
  by (Some j) h = absurd (
      let s = spelled_so all_keywords word j h in
      let f : Some j ≡ Some k = sym ((found j).0) ∙ ap alike s ∙ e in
      let same : j ≡ k = cc f in
      let t : bytes_eq (spelling k) word ≡ true = (bytes_eq-Decides (spelling k) word).1 (ap spelling (sym same) ∙ s) in
      let b : true ≡ false = sym t ∙ n in
      cc b)
