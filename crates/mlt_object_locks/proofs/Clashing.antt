-- Who stands against a requested operation at a place where it looks holds one with which it clashes, and back.
use Rattle.std.proofs.Common.{◌≡◌, ◌⊎◌, ℕ, List, [], ◌∷◌, ◌++◌, Option, None, Some, Contains, sym, subst, inl, inr}
use Rattle.mlt_object_locks.proofs.Names.{Contains-append_left, Contains-push, Contains-push_cases, IndexMap, Cell, IsInRange, cell_of, ObjOp, ObjReply, Holder, Held, HoldsClash, IsLowestOf, lower_of, StandsAgainst, KeysWithRoom, IsSound, StandsAtOne, list_at, looked_at}
use Rattle.mlt_object_locks.proofs.{ClassLaws.clash_hinders, ClassLaws.hindered_clash, ClassLaws.share_place, Lowest.lowest_of_both, Lowest.lowest_of_first, Lowest.same_lowest}

module _ {S : Type 0} (cells : IndexMap ℕ (List Holder) S) (reserved : List (ℕ × Cell)) (noted : List (ℕ × KeysWithRoom)) (held : List Held) (is : IsSound cells reserved noted held) (tx : ℕ) (requested : ObjOp × ObjReply) (range : IsInRange (cell_of requested.0)) where
  abbrev Here : ℕ → Type 0
  Here = StandsAtOne cells (looked_at requested.0) tx requested

  clash_here : (number : ℕ) → HoldsClash held tx requested number → Here number
  clash_here number h =
      let earlier = h.1.0 in
      let shares = share_place earlier requested h.1.2 in
      let bit = clash_hinders earlier requested (is.in_range number earlier h.1.1) range h.1.2 in
      (shares.0, shares.2, (h.0, (bit.0, is.has shares.0 number bit.0 (earlier, h.1.1, shares.1, bit.1), bit.2)))

  clash_held : (number : ℕ) → Here number → HoldsClash held tx requested number
  clash_held number h =
      let bit = h.2.1 in
      let holds = is.only h.0 number bit.0 bit.1 in
      (h.2.0, (holds.0, holds.1, hindered_clash holds.0 requested (is.in_range number holds.0 holds.1) range (h.0, holds.2, h.1) bit.0 holds.3 bit.2))

  -- so the lowest there is the lowest of all
  pub lowest_of_all : (places : List ℕ) (seen : List Held) → places ≡ looked_at requested.0 → held ≡ seen → (lowest : Option ℕ)
      → IsLowestOf (StandsAtOne cells places tx requested) lowest → IsLowestOf (HoldsClash seen tx requested) lowest
  lowest_of_all places seen looked same lowest h =
      subst (λ held. IsLowestOf (HoldsClash held tx requested) lowest) same
      (same_lowest Here (HoldsClash held tx requested) clash_held clash_here lowest (subst (λ places. IsLowestOf (StandsAtOne cells places tx requested) lowest) looked h))

-- who stands against it at one place more
module _ {S : Type 0} (cells : IndexMap ℕ (List Holder) S) (places : List ℕ) (place tx : ℕ) (requested : ObjOp × ObjReply) where
  abbrev Before : ℕ → Type 0
  Before = StandsAtOne cells places tx requested

  abbrev There : ℕ → Type 0
  There = StandsAgainst (list_at cells place) tx requested

  abbrev After : ℕ → Type 0
  After = StandsAtOne cells (places ++ place ∷ []) tx requested

  still : (n : ℕ) → Before n → After n
  still n h = (h.0, Contains-append_left places (place ∷ []) h.0 h.1, h.2)

  there : (n : ℕ) → There n → After n
  there n h = (place, Contains-push places place, h)

  either : (n : ℕ) → After n → Before n ⊎ There n
  either n h = by (Contains-push_cases places place h.0 h.1)
    where
      by : Contains places h.0 ⊎ (place ≡ h.0) → Before n ⊎ There n
      by (inl c) = inl (h.0, c, h.2)
      by (inr e) = inr (subst (λ k. StandsAgainst (list_at cells k) tx requested n) (sym e) h.2)

  pub lowest_with_one : (lowest : Option ℕ) (other : ℕ) → IsLowestOf Before lowest → IsLowestOf There (Some other) → IsLowestOf After (Some (lower_of lowest other))
  lowest_with_one lowest other h k = lowest_of_both Before There After still there either lowest other h k

  pub lowest_with_none : (lowest : Option ℕ) → IsLowestOf Before lowest → IsLowestOf There None → IsLowestOf After lowest
  lowest_with_none lowest h none = lowest_of_first Before There After still there either lowest h none
