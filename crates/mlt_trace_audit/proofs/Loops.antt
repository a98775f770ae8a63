-- Loops over a list that end at the first element of which a fact does not hold.
use Rattle.std.proofs.Common.{◌≡◌, ℕ, ◌+◌, ◌<◌, ◌≤◌, List, length, get_or, take, All, Some, slice_get, sym, ap, subst, ◌∙◌, inl, inr, arith, take_all}
use Rattle.mlt_trace_audit.proofs.Names.{same_Some}
use Rattle.std.proofs.lemmas.{Bool.cases_lt, List.Elements.All-more, List.Elements.All-same}

module _ {X : Type 0} (P : X → Type 0) (xs : List X) (i : ℕ) where
  pub one_more : (x : X) → i < length xs → x ≡ get_or xs i x → All P (take i xs) → P x → All P (take (i + 1) xs)
  one_more x within is all holds = All-more P xs i x within all (subst P is holds)

  pub at_end : length xs ≤ i → All P (take i xs) → All P xs
  at_end past all = All-same P xs (take i xs) (sym (take_all i xs past)) all

-- what is so of the element at a place, and of those before it
pub up_to_here : {X : Type 0} (xs : List X) (i : ℕ) (x : X) → slice_get xs i ≡ Some x → (P : ℕ → X → Type 0) → P i x
    → ((k : ℕ) (y : X) → k < i → slice_get xs k ≡ Some y → P k y) → (k : ℕ) (y : X) → k < i + 1 → slice_get xs k ≡ Some y → P k y
up_to_here xs i x here P holds before k y within there = elim (cases_lt k i) [
  | inl low ↦ before k y low there
  | inr high ↦
      let place : i ≡ k = omega (arith, high, within) in
      subst (P k) (same_Some x y (sym here ∙ ap (slice_get xs) place ∙ there)) (subst (λ n. P n x) place holds)
]
