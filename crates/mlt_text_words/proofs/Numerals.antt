-- Reading a number digit by digit, up to the first that takes it past 2 ^ 64 - 1.
use Rattle.std.proofs.Common.{◌≡◌, ℕ, ◌+◌, ◌-◌, ◌*◌, ◌^◌, ◌<◌, ◌≤◌, List, [], ◌∷◌, length, Bool, true, false, cond, Option, Some, None, nat_lt, ◌&&◌, if◌then◌else◌, refl, sym, ap, ◌∙◌, arith, lt-ltb, le-ltb, le-leb, ltb-true, ltb-false}
use Rattle.mlt_text_words.proofs.Names.{list_all, digit_value, is_digit}
use Rattle.std.specs.Str.Parse.{digits_value_after}
use Rattle.mlt_text_words.specs.Numbers.{number_of}

-- the number, if digits follow those of n, and nothing else, and it stays below 2 ^ 64
abbrev pub goes_on : ℕ → List ℕ → Option ℕ
goes_on n [] = Some n
goes_on n (b ∷ bs) = if is_digit b && nat_lt (n * 10 + (b - 48)) (2 ^ 64) then goes_on (n * 10 + (b - 48)) bs else None

abbrev fitting : ℕ → Option ℕ
fitting n = if nat_lt n (2 ^ 64) then Some n else None

grows : (n : ℕ) (bs : List ℕ) → n ≤ digits_value_after 10 n bs
grows n [] = omega arith
grows n (b ∷ bs) = let h = grows (n * 10 + digit_value b) bs in omega (arith, h)

pub digit_is : (b : ℕ) → is_digit b ≡ true → digit_value b ≡ b - 48
digit_is b h = grind arith

abbrev Reached : ℕ → List ℕ → Type 0
Reached n bs = goes_on n bs ≡ (if list_all is_digit bs && nat_lt (digits_value_after 10 n bs) (2 ^ 64) then Some (digits_value_after 10 n bs) else None)

too_great : (n : ℕ) (bs : List ℕ) (p : Bool) → 2 ^ 64 ≤ n → None ≡ cond (p && nat_lt (digits_value_after 10 n bs) (2 ^ 64)) (Some (digits_value_after 10 n bs)) None
too_great n bs true h = rw (le-ltb (digits_value_after 10 n bs) (2 ^ 64) (let g = grows n bs in omega (arith, g, h))) refl
too_great n bs false h = refl

at_digit : (n m : ℕ) (bs : List ℕ) (fits : Bool) → nat_lt m (2 ^ 64) ≡ fits → n ≡ m → (m < 2 ^ 64 → Reached m bs)
    → cond fits (goes_on m bs) None ≡ (if list_all is_digit bs && nat_lt (digits_value_after 10 n bs) (2 ^ 64) then Some (digits_value_after 10 n bs) else None)
at_digit n m bs true h e r = r (ltb-true m (2 ^ 64) h) ∙ ap (λ k. if list_all is_digit bs && nat_lt (digits_value_after 10 k bs) (2 ^ 64) then Some (digits_value_after 10 k bs) else None) (sym e)
at_digit n m bs false h e r = too_great n bs (list_all is_digit bs) (let l = ltb-false m (2 ^ 64) h in omega (arith, l, e))

at_byte : (n b : ℕ) (bs : List ℕ) (digit : Bool) → is_digit b ≡ digit → (n * 10 + (b - 48) < 2 ^ 64 → Reached (n * 10 + (b - 48)) bs)
    → cond (digit && nat_lt (n * 10 + (b - 48)) (2 ^ 64)) (goes_on (n * 10 + (b - 48)) bs) None
    ≡ (if (digit && list_all is_digit bs) && nat_lt (digits_value_after 10 (n * 10 + digit_value b) bs) (2 ^ 64) then Some (digits_value_after 10 (n * 10 + digit_value b) bs) else None)
at_byte n b bs true h r = at_digit (n * 10 + digit_value b) (n * 10 + (b - 48)) bs (nat_lt (n * 10 + (b - 48)) (2 ^ 64)) refl (ap (λ d. n * 10 + d) (digit_is b h)) r
at_byte n b bs false h r = refl

reached : (n : ℕ) (bs : List ℕ) → n < 2 ^ 64 → Reached n bs
reached n [] h = rw (lt-ltb n (2 ^ 64) h) refl
reached n (b ∷ bs) h = at_byte n b bs (is_digit b) refl (λ l. reached (n * 10 + (b - 48)) bs l)

pub from_start : (word : List ℕ) → 0 < length word → length word ≤ 20 → goes_on 0 word ≡ number_of word
unfolding number_of
from_start word l g = rw (lt-ltb 0 (length word) l, le-leb (length word) 20 g) (reached 0 word (omega arith))
