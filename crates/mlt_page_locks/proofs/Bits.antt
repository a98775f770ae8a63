-- Bits of masks: marks that are set and taken away.
use Rattle.std.proofs.Common.{◌≡◌, ◌⊎◌, ℕ, ◌+◌, ◌-◌, ◌/◌, ◌%◌, ◌^◌, ◌<◌, ◌≤◌, List, length, get_or, set, length-set, bit_and, bit_or, w64, div-le_self, sym, ap, ◌∙◌, inl, inr, arith, get_or-set_same, get_or-set_other, shr-shr}
use Rattle.mlt_page_locks.proofs.Names.{bit_at, bit_at-zero, cases_eq, mask_of, row_of, IsMarked, IsUnmarked}
use Rattle.std.{specs.Int.trailing_zeros, specs.Int.Count.trailing_of_zero, proofs.lemmas.Nat.Bits.bit_at-lt, proofs.lemmas.Nat.Bits.bit_at-trailing_zeros, proofs.lemmas.Nat.Bits.bit_at_and, proofs.lemmas.Nat.Bits.bit_at_or}
use Rattle.mlt_page_locks.specs.Marks.{IsNextPlace}

module _ (masks : List ℕ) (at v : ℕ) (inside : at < length masks) where
  -- what the mask keeps, its number keeps
  pub kept_at : (n p : ℕ) → (bit_at (get_or masks at 0) p ≡ 1 → bit_at v p ≡ 1) → IsMarked masks n p → IsMarked (set masks at v) n p
  kept_at n p keeps h = by (cases_eq (row_of (length masks) n) at)
    where
      where_now : mask_of (set masks at v) n ≡ get_or (set masks at v) (row_of (length masks) n) 0
      where_now = ap (λ l. get_or (set masks at v) (row_of l n) 0) (length-set {A = ℕ} masks at v)

      by : (row_of (length masks) n ≡ at) ⊎ (row_of (length masks) n ≡ at → ⊥) → IsMarked (set masks at v) n p
      by (inl e) =
          ap (λ m. bit_at m p) (where_now ∙ ap (λ k. get_or (set masks at v) k 0) e ∙ get_or-set_same masks at v 0 inside)
          ∙ keeps (ap (λ k. bit_at (get_or masks k 0) p) (sym e) ∙ h)
      by (inr ne) = ap (λ m. bit_at m p) (where_now ∙ get_or-set_other masks at (row_of (length masks) n) v 0 ne) ∙ h

  -- and what it gets is marked
  pub marked_at : (n p : ℕ) → row_of (length masks) n ≡ at → bit_at v p ≡ 1 → IsMarked (set masks at v) n p
  marked_at n p e h =
      ap (λ m. bit_at m p) (ap (λ l. get_or (set masks at v) (row_of l n) 0) (length-set {A = ℕ} masks at v) ∙ ap (λ k. get_or (set masks at v) k 0) e ∙ get_or-set_same masks at v 0 inside) ∙ h

  -- what its number gets, the mask got
  pub had_at : (n p : ℕ) → (bit_at v p ≡ 1 → bit_at (get_or masks at 0) p ≡ 1) → IsMarked (set masks at v) n p → IsMarked masks n p
  had_at n p had h = by (cases_eq (row_of (length masks) n) at)
    where
      where_now : mask_of (set masks at v) n ≡ get_or (set masks at v) (row_of (length masks) n) 0
      where_now = ap (λ l. get_or (set masks at v) (row_of l n) 0) (length-set {A = ℕ} masks at v)

      by : (row_of (length masks) n ≡ at) ⊎ (row_of (length masks) n ≡ at → ⊥) → IsMarked masks n p
      by (inl e) =
          ap (λ k. bit_at (get_or masks k 0) p) e
          ∙ had (ap (λ m. bit_at m p) (sym (where_now ∙ ap (λ k. get_or (set masks at v) k 0) e ∙ get_or-set_same masks at v 0 inside)) ∙ h)
      by (inr ne) = ap (λ m. bit_at m p) (sym (where_now ∙ get_or-set_other masks at (row_of (length masks) n) v 0 ne)) ∙ h

  -- and what it loses is not
  pub unmarked_at : (n p : ℕ) → row_of (length masks) n ≡ at → bit_at v p ≡ 0 → IsMarked (set masks at v) n p → ⊥
  unmarked_at n p e h marked =
      let zero : mask_of (set masks at v) n ≡ v = ap (λ l. get_or (set masks at v) (row_of l n) 0) (length-set {A = ℕ} masks at v) ∙ ap (λ k. get_or (set masks at v) k 0) e ∙ get_or-set_same masks at v 0 inside in
      let bit : bit_at (mask_of (set masks at v) n) p ≡ 0 = ap (λ m. bit_at m p) zero ∙ h in
      absurd (omega arith)

-- a bit more
pub set_keeps_bit : (a b p : ℕ) → bit_at a p ≡ 1 → bit_at (bit_or a b) p ≡ 1
set_keeps_bit a b p h = let e = bit_at_or a b p in let lt = bit_at-lt b p in omega arith

-- a bit of both is one of the first
pub bit_of_both : (a b p : ℕ) → bit_at (bit_and a b) p ≡ 1 → bit_at a p ≡ 1
bit_of_both a b p h = let e = bit_at_and a b p in let lt = bit_at-lt a p in omega arith

-- a bit from start on is a bit of the rest
bit_of_rest : (mask start p : ℕ) → start ≤ p → bit_at mask p ≡ bit_at (mask / 2 ^ start) (p - start)
bit_of_rest mask start p from =
    let e : p ≡ start + (p - start) = omega arith in
    ap (bit_at mask) e ∙ ap (λ x. x % 2) (sym (shr-shr mask start (p - start)))

none_below : (n i : ℕ) → n < 2 ^ 64 → i < trailing_zeros w64 n → bit_at n i ≡ 0
none_below n i fits below = by (cases_eq n 0)
  where
    by : (n ≡ 0) ⊎ (n ≡ 0 → ⊥) → bit_at n i ≡ 0
    by (inl none) = ap (λ m. bit_at m i) none ∙ bit_at-zero i
    by (inr some) = (bit_at-trailing_zeros w64 n (omega arith) fits).2 i below

module _ (mask start : ℕ) (fits : mask < 2 ^ 64) where
  abbrev rest : ℕ
  rest = mask / 2 ^ start

  rest_fits : rest < 2 ^ 64
  rest_fits = omega (arith, div-le_self mask (2 ^ start))

  -- what lies before the lowest bit of the rest is unmarked
  pub unmarked_before : (end : ℕ) → end ≤ start + trailing_zeros w64 rest → IsUnmarked mask start end
  unmarked_before end le = λ p from below. bit_of_rest mask start p from ∙ none_below rest (p - start) rest_fits (omega arith)

  -- and its lowest bit is the next place
  pub next_is : (end : ℕ) → end ≤ 64 → start + trailing_zeros w64 rest < end → IsNextPlace mask start end (start + trailing_zeros w64 rest)
  next_is end few inside = record {
    from_start = omega arith;
    within = inside;
    marked = by (cases_eq rest 0);
    passed_over = unmarked_before (start + trailing_zeros w64 rest) (omega arith);
  }
    where
      by : (rest ≡ 0) ⊎ (rest ≡ 0 → ⊥) → bit_at mask (start + trailing_zeros w64 rest) ≡ 1
      by (inl none) =
          let all : trailing_zeros w64 rest ≡ 64 = ap (trailing_zeros w64) none ∙ trailing_of_zero 64 in absurd (omega arith)
      by (inr some) =
          let at : start + trailing_zeros w64 rest - start ≡ trailing_zeros w64 rest = omega arith in
          bit_of_rest mask start (start + trailing_zeros w64 rest) (omega arith) ∙ ap (bit_at rest) at ∙ (bit_at-trailing_zeros w64 rest (omega arith) rest_fits).1
