-- Numbers of operations, read without asking what other words are.
use Rattle.std.proofs.Common.{◌≡◌, ℕ, List, Option, Some, None, option_and_then, nat_lt, if◌then◌else◌, refl}
use Rattle.mlt_script.proofs.Names.{Word, Key, Variable, Number, Other, word_at, number_at}
use Rattle.mlt_text_words.specs.Words.{number_word}
use Rattle.mlt_script.specs.Forms.{number_below, number_in}

abbrev limited : ℕ → ℕ × List Word → Option (ℕ × List Word)
limited limit n = if nat_lt n.0 limit then Some (n.0, n.1) else None

below : (limit : ℕ) (w : Word) (rest : List Word) → number_in limit w rest ≡ option_and_then (limited limit) (number_word w rest)
below limit (Key k) rest = refl
below limit (Variable l) rest = refl
below limit (Number n) rest = refl
below limit Other rest = refl

below_first : (limit : ℕ) (first : Option (Word × List Word))
    → option_and_then (λ w. number_in limit w.0 w.1) first ≡ option_and_then (limited limit) (option_and_then (λ w. number_word w.0 w.1) first)
below_first limit None = refl
below_first limit (Some w) = below limit w.0 w.1

pub below_number : (limit : ℕ) (words : List Word) → number_below limit words ≡ option_and_then (limited limit) (number_at words)
unfolding number_below
below_number limit words = below_first limit (word_at words)
