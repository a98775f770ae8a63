-- Sets of classes as the bits of numbers.
use Rattle.mlt_object_locks.proofs.Names.{zero, cases_eq, Adds, InSet, Meets}
use Rattle.std.proofs.Common.{◌≡◌, ◌⊎◌, ℕ, suc, ◌/◌, ◌%◌, ◌*◌, ◌^◌, ◌<◌, ◌≤◌, bit_and, bit_or, w32, sym, subst, ◌∙◌, inl, inr, arith}
use Rattle.mlt_object_locks.specs.Classes.{IsUnion}
use Rattle.std.proofs.lemmas.Nat.Bits.{bit_at-lt, bit_at-zero, bit_at-suc, bit_at_lowest, bit_at_and, bit_at_or, bit_at_set_same, bit_at_set_other}

-- nothing has no bit
pub none_in_set : (k : ℕ) → InSet 0 k → ⊥
none_in_set k h = let z = bit_at-zero k in absurd (omega arith)

bit_below : (most n : ℕ) → n ≤ most → 0 < n → (k : ℕ) × InSet n k
bit_below zero n le some = absurd (omega arith)
bit_below (suc most) n le some = by (λ h g. bit_below most (n / 2) h g) (cases_eq (n % 2) 1)
  where
    by : (n / 2 ≤ most → 0 < n / 2 → (k : ℕ) × InSet (n / 2) k) → (n % 2 ≡ 1) ⊎ (n % 2 ≡ 1 → ⊥) → (k : ℕ) × InSet n k
    by half (inl odd) = (0, bit_at_lowest n ∙ odd)
    by half (inr even) = let rest = half (omega arith) (omega arith) in (suc rest.0, bit_at-suc n rest.0 ∙ rest.1)

-- what is not 0 has a bit
pub some_bit : (n : ℕ) → (n ≡ 0 → ⊥) → (k : ℕ) × InSet n k
some_bit n ne = bit_below n n (omega arith) (omega arith)

-- a bit of both is one of each, and back
pub in_both : (a b k : ℕ) → InSet (bit_and a b) k → InSet a k × InSet b k
in_both a b k h = let e = bit_at_and a b k in let m = bit_at-lt a k in let n = bit_at-lt b k in (omega arith, omega arith)

pub both_in : (a b k : ℕ) → InSet a k → InSet b k → InSet (bit_and a b) k
both_in a b k h g = let e = bit_at_and a b k in omega arith

-- two sets meet where not nothing is in both
pub meets_if : (a b : ℕ) → (bit_and a b ≡ 0 → ⊥) → Meets a b
meets_if a b ne = let bit = some_bit (bit_and a b) ne in let both = in_both a b bit.0 bit.1 in (bit.0, both.0, both.1)

pub not_none_if : (a b : ℕ) → Meets a b → bit_and a b ≡ 0 → ⊥
not_none_if a b h e = none_in_set h.0 (subst (λ n. InSet n h.0) e (both_in a b h.0 h.1 h.2))

-- a bit is added
pub adds_bit : (n k : ℕ) → k < 32 → Adds n (bit_or n (1 * 2 ^ k % 2 ^ 32)) k
adds_bit n k within = record {
  has = bit_at_set_same w32 n k within;
  keeps = λ j h. let e = bit_at_or n (1 * 2 ^ k % 2 ^ 32) j in let lt = bit_at-lt (1 * 2 ^ k % 2 ^ 32) j in omega arith;
  only = λ j h. by j h (cases_eq j k);
}
  where
    by : (j : ℕ) → InSet (bit_or n (1 * 2 ^ k % 2 ^ 32)) j → (j ≡ k) ⊎ (j ≡ k → ⊥) → InSet n j ⊎ (j ≡ k)
    by j h (inl e) = inr e
    by j h (inr ne) = inl (sym (bit_at_set_other w32 n k within j ne) ∙ h)

-- what is in one of two sets is in both together
pub both_together : (a b : ℕ) → IsUnion (bit_or a b) a b
both_together a b = record {
  has_one = λ k h. let e = bit_at_or a b k in let lt = bit_at-lt b k in omega arith;
  has_other = λ k h. let e = bit_at_or a b k in let lt = bit_at-lt a k in omega arith;
}
