-- Outcomes that were sorted by client and then by number.
use Rattle.std.proofs.Common.{◌≡◌, ℕ, zero, suc, ◌+◌, ◌-◌, ◌<◌, ◌≤◌, List, length, get_or, false, IsSortedByKey, refl, sym, subst, ◌∙◌, inl, inr, arith, is_lt, nat_cmp}
use Rattle.std.specs.{Ordering.ordering_then, declared.cmp.Ordering.Ordering, declared.cmp.Ordering.TheVariants.Less, declared.cmp.Ordering.TheVariants.Equal, declared.cmp.Ordering.TheVariants.Greater, Cmp.ranked}
use Rattle.mlt_serve.proofs.Names.{Outcome}
use Rattle.mlt_serve.specs.Clients.{AreByClientAndNumber, MayPrecede}

abbrev pub place_of : Outcome → ℕ × ℕ
place_of o = (o.client, o.number)

abbrev pub compare : ℕ × ℕ → ℕ × ℕ → Ordering
compare x y = ordering_then (nat_cmp x.0 y.0) (nat_cmp x.1 y.1)

no_greater : (x y : ℕ) (r : Ordering) → r ≡ nat_cmp x y → is_lt r ≡ false → y ≤ x
no_greater x y Less e not_less = absurd (cc not_less)
no_greater x y Equal e not_less = let same = ranked x y Equal e in omega (arith, same)
no_greater x y Greater e not_less = let more = ranked x y Greater e in omega (arith, more)

by_first : (one other : Outcome) (r : Ordering) → r ≡ nat_cmp other.client one.client
    → is_lt (ordering_then r (nat_cmp other.number one.number)) ≡ false → MayPrecede one other
by_first one other Less e not_less = absurd (cc not_less)
by_first one other Equal e not_less = inr (sym (ranked other.client one.client Equal e), no_greater other.number one.number (nat_cmp other.number one.number) refl not_less)
by_first one other Greater e not_less = inl (ranked other.client one.client Greater e)

further : (one other next : Outcome) → MayPrecede one other → MayPrecede other next → MayPrecede one next
further one other next (inl a) (inl b) = inl (omega (arith, a, b))
further one other next (inl a) (inr b) = inl (omega (arith, a, b.0))
further one other next (inr a) (inl b) = inl (omega (arith, a.0, b))
further one other next (inr a) (inr b) = inr (a.0 ∙ b.0, omega (arith, a.1, b.1))

module _ (outcomes : List Outcome) (sorted : IsSortedByKey place_of compare outcomes) where
  to_next : (i : ℕ) (d : Outcome) → i + 1 < length outcomes → MayPrecede (get_or outcomes i d) (get_or outcomes (i + 1) d)
  to_next i d within = by_first (get_or outcomes i d) (get_or outcomes (i + 1) d) _ refl (sorted i d (omega arith) within)

  to_later : (i m : ℕ) (d : Outcome) → i + 1 + m < length outcomes → MayPrecede (get_or outcomes i d) (get_or outcomes (i + 1 + m) d)
  to_later i zero d within = subst (λ k. MayPrecede (get_or outcomes i d) (get_or outcomes k d)) (omega arith) (to_next i d (omega (arith, within)))
  to_later i (suc m) d within =
      let on : i + 1 + m + 1 ≡ i + 1 + suc m = omega arith in
      subst (λ k. MayPrecede (get_or outcomes i d) (get_or outcomes k d)) on
      (further (get_or outcomes i d) (get_or outcomes (i + 1 + m) d) (get_or outcomes (i + 1 + m + 1) d) (to_later i m d (omega (arith, within))) (to_next (i + 1 + m) d (omega (arith, within))))

  pub by_client_and_number : AreByClientAndNumber outcomes
  by_client_and_number i j d before within =
      let at : i + 1 + (j - i - 1) ≡ j = omega (arith, before) in
      subst (λ k. MayPrecede (get_or outcomes i d) (get_or outcomes k d)) at (to_later i (j - i - 1) d (omega (arith, before, within)))
