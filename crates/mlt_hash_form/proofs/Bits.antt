-- The first bits of a pseudokey. Other crates cite this module.
use Rattle.std.proofs.Common.{ℕ, ◌≡◌, ◌<◌, ◌≤◌, ◌+◌, ◌-◌, ◌*◌, ◌/◌, ◌%◌, ◌^◌, sym, ◌∙◌, ap, arith, ◌⊎◌, shr-shr}
use Rattle.mlt_hash_form.proofs.Names.{shl-shr, shr_below, first_bits, bit_at}
use Rattle.std.proofs.lemmas.Nat.{shl_below}

-- fewer bits are the front of more bits
pub first_bits-first_bits : (l m x : ℕ) → l ≤ m → m ≤ 64 → first_bits m x / 2 ^ (m - l) ≡ first_bits l x
first_bits-first_bits l m x h k =
    let e : (64 - m) + (m - l) ≡ 64 - l = omega arith in
    shr-shr x (64 - m) (m - l) ∙ ap (λ j. x / 2 ^ j) e

pub first_bits_below : (l x : ℕ) → l ≤ 64 → x < 2 ^ 64 → first_bits l x < 2 ^ l
first_bits_below l x h k =
    let e : 64 ≡ l + (64 - l) = omega arith in
    shr_below x l (64 - l) (rw (← e) k)

-- one bit more
pub first_bits_next : (l x : ℕ) → l < 64 → first_bits (l + 1) x / 2 ≡ first_bits l x
first_bits_next l x h =
    let e : (l + 1) - l ≡ 1 = omega arith in
    let f = first_bits-first_bits l (l + 1) x (omega arith) (omega arith) in
    rw e at f

pub side_cases : (l x : ℕ) → (bit_at l x ≡ 0) ⊎ (bit_at l x ≡ 1)
side_cases l x = grind arith

pub next_same : (l x y : ℕ) → l < 64 → first_bits l x ≡ first_bits l y → bit_at l x ≡ bit_at l y → first_bits (l + 1) x ≡ first_bits (l + 1) y
next_same l x y h p s = omega (arith, first_bits_next l x h, first_bits_next l y h)

pub front_same : (l x y : ℕ) → l < 64 → first_bits (l + 1) x ≡ first_bits (l + 1) y → (first_bits l x ≡ first_bits l y) × (bit_at l x ≡ bit_at l y)
front_same l x y h e = (sym (first_bits_next l x h) ∙ ap (λ n. n / 2) e ∙ first_bits_next l y h, ap (λ n. n % 2) e)

-- a pseudokey with given first bits
pub with_first_bits : ℕ → ℕ → ℕ
with_first_bits l p = p * 2 ^ (64 - l)

pub first_bits-with_first_bits : (l p : ℕ) → first_bits l (with_first_bits l p) ≡ p
unfolding with_first_bits
first_bits-with_first_bits l p = shl-shr p (64 - l)

pub with_first_bits_below : (l p : ℕ) → l ≤ 64 → p < 2 ^ l → with_first_bits l p < 2 ^ 64
unfolding with_first_bits
with_first_bits_below l p h k =
    let e : l + (64 - l) ≡ 64 = omega arith in
    let f = shl_below p l (64 - l) k in
    rw e at f
