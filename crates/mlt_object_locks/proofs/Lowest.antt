-- The lowest number of another transaction that stands in the way, with one more holder.
use Rattle.std.proofs.Common.{◌≡◌, ◌⊎◌, ℕ, ◌+◌, ◌≤◌, ◌<◌, List, [], ◌∷◌, ◌++◌, Option, None, Some, Contains, length, get_or, take, ap, sym, subst, ◌∙◌, refl, arith, inl, inr}
use Rattle.mlt_object_locks.proofs.Names.{take_more, Contains-append_left, Contains-push, Contains-push_cases, Holder, lower_of, IsLowestOf, Meets, IsInTheWay, IsLowestInTheWay, holder_of}
use Rattle.mlt_object_locks.specs.Holders.{StandsIn}

lower_left : (low n : ℕ) → lower_of (Some low) n ≤ low
lower_left low n = grind arith

lower_right : (low n : ℕ) → lower_of (Some low) n ≤ n
lower_right low n = grind arith

lower_either : (low n : ℕ) → (lower_of (Some low) n ≡ low) ⊎ (lower_of (Some low) n ≡ n)
lower_either low n = grind arith

-- the lowest of one kind is that of another, where each of the one is of the other and back
pub same_lowest : (P Q : ℕ → Type 0) → ((n : ℕ) → P n → Q n) → ((n : ℕ) → Q n → P n) → (lowest : Option ℕ) → IsLowestOf P lowest → IsLowestOf Q lowest
same_lowest P Q there back None h = λ n k. h n (back n k)
same_lowest P Q there back (Some lowest) h = (there lowest h.0, λ n k. h.1 n (back n k))

-- The lowest of those of two kinds, or of more, is the lower of the lowest of each.
module _ (P Q R : ℕ → Type 0) (of_one : (n : ℕ) → P n → R n) (of_other : (n : ℕ) → Q n → R n) (either : (n : ℕ) → R n → P n ⊎ Q n) where
  none_else : ((n : ℕ) → Q n → ⊥) → (n : ℕ) → P n ⊎ Q n → P n
  none_else none n (inl h) = h
  none_else none n (inr h) = absurd (none n h)

  pub lowest_of_first : (lowest : Option ℕ) → IsLowestOf P lowest → IsLowestOf Q None → IsLowestOf R lowest
  lowest_of_first lowest h none = same_lowest P R of_one (λ n k. none_else none n (either n k)) lowest h

  lower_is : (low other : ℕ) → R low → R other → (lower_of (Some low) other ≡ low) ⊎ (lower_of (Some low) other ≡ other) → R (lower_of (Some low) other)
  lower_is low other h k (inl e) = subst R (sym e) h
  lower_is low other h k (inr e) = subst R (sym e) k

  not_below : (low other : ℕ) → ((n : ℕ) → P n → low ≤ n) → ((n : ℕ) → Q n → other ≤ n) → (n : ℕ) → P n ⊎ Q n → lower_of (Some low) other ≤ n
  not_below low other h k n (inl c) = let a = h n c in let b = lower_left low other in omega arith
  not_below low other h k n (inr c) = let a = k n c in let b = lower_right low other in omega arith

  only_other : ((n : ℕ) → P n → ⊥) → (other : ℕ) → ((n : ℕ) → Q n → other ≤ n) → (n : ℕ) → P n ⊎ Q n → other ≤ n
  only_other none other k n (inl c) = absurd (none n c)
  only_other none other k n (inr c) = k n c

  pub lowest_of_both : (lowest : Option ℕ) (other : ℕ) → IsLowestOf P lowest → IsLowestOf Q (Some other) → IsLowestOf R (Some (lower_of lowest other))
  lowest_of_both None other h k = (of_other other k.0, λ n c. only_other h other k.1 n (either n c))
  lowest_of_both (Some low) other h k =
      (lower_is low other (of_one low h.0) (of_other other k.0) (lower_either low other), λ n c. not_below low other h.1 k.1 n (either n c))

module _ (holders : List Holder) (holder : Holder) (tx against : ℕ) where
  abbrev Before : ℕ → Type 0
  Before n = IsInTheWay holders tx against n

  abbrev After : ℕ → Type 0
  After n = IsInTheWay (holders ++ holder ∷ []) tx against n

  abbrev Own : ℕ → Type 0
  Own n = (holder.tx ≡ n) × StandsIn holder tx against

  still_stands : (n : ℕ) → Before n → After n
  still_stands n h = (h.0, (h.1.0, Contains-append_left holders (holder ∷ []) (holder_of n h.1.0) h.1.1, h.1.2))

  by_cases : (n : ℕ) (h : After n) → Contains holders (holder_of n h.1.0) ⊎ (holder ≡ holder_of n h.1.0) → Before n ⊎ Own n
  by_cases n h (inl c) = inl (h.0, (h.1.0, c, h.1.2))
  by_cases n h (inr e) =
      let number : holder.tx ≡ n = ap (λ (x : Holder). x.tx) e in
      inr (number, ((λ k. h.0 (sym number ∙ k)), subst (λ (x : Holder). Meets x.classes against) (sym e) h.1.2))

  -- who stands in the way did before, or is the one more
  old_or_own : (n : ℕ) → After n → Before n ⊎ Own n
  old_or_own n h = by_cases n h (Contains-push_cases holders holder (holder_of n h.1.0) h.1.1)

  own_stands : StandsIn holder tx against → After holder.tx
  own_stands s = (s.0, (holder.classes, Contains-push holders holder, s.1))

  -- one that stands in the way: the lower of the two
  lowest_with : (lowest : Option ℕ) → IsLowestInTheWay holders tx against lowest → StandsIn holder tx against → IsLowestInTheWay (holders ++ holder ∷ []) tx against (Some (lower_of lowest holder.tx))
  lowest_with lowest h s =
      lowest_of_both Before Own After still_stands (λ n own. subst After own.0 (own_stands own.1)) old_or_own lowest holder.tx h ((refl, s), λ n own. let e = own.0 in omega arith)

  -- one that does not: as before
  lowest_without : (lowest : Option ℕ) → IsLowestInTheWay holders tx against lowest → (StandsIn holder tx against → ⊥) → IsLowestInTheWay (holders ++ holder ∷ []) tx against lowest
  lowest_without lowest h s =
      lowest_of_first Before Own After still_stands (λ n own. subst After own.0 (own_stands own.1)) old_or_own lowest h (λ n own. s own.1)

pub one_more : (holders : List Holder) (i : ℕ) (holder : Holder) → i < length holders → get_or holders i holder ≡ holder → take (i + 1) holders ≡ take i holders ++ holder ∷ []
one_more holders i holder within is = take_more holders i holder within ∙ ap (λ x. take i holders ++ x ∷ []) is

-- the same of the front of a list, with its next holder
module _ (holders : List Holder) (i : ℕ) (holder : Holder) (tx against : ℕ) (lowest : Option ℕ) (within : i < length holders) (is : get_or holders i holder ≡ holder) (so_far : IsLowestInTheWay (take i holders) tx against lowest) where
  pub front_with : StandsIn holder tx against → IsLowestInTheWay (take (i + 1) holders) tx against (Some (lower_of lowest holder.tx))
  front_with s = subst (λ l. IsLowestInTheWay l tx against (Some (lower_of lowest holder.tx))) (sym (one_more holders i holder within is)) (lowest_with (take i holders) holder tx against lowest so_far s)

  pub front_without : (StandsIn holder tx against → ⊥) → IsLowestInTheWay (take (i + 1) holders) tx against lowest
  front_without s = subst (λ l. IsLowestInTheWay l tx against lowest) (sym (one_more holders i holder within is)) (lowest_without (take i holders) holder tx against lowest so_far s)
