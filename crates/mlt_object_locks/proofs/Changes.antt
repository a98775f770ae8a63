-- What coming, being granted and giving up at one place, and at one place more, leaves at each.
use Rattle.std.proofs.Common.{◌≡◌, ◌≢◌, ◌⊎◌, ℕ, List, [], ◌∷◌, ◌++◌, true, nat_eq, Option, Some, Contains, sym, subst, refl, inl, inr, arith, filter}
use Rattle.mlt_object_locks.proofs.Names.{cases_eq, nat_tests, Contains-append_left, Contains-push, Contains-push_cases, IndexMap, IsUnique, Holder, Grants, HasBit, IsHere, Joins, holder_of, is_not_idle_of, ChangesAt, GivesUp, GrantsAt, IsGivenUp, IsHereAt, JoinsAt, list_at, KeysWithRoom, NotesEach, SameNoted, noted_of}
use Rattle.mlt_object_locks.{specs.Cells.AreBitsNoted, proofs.Membership.contains_filtered, proofs.Membership.filter_contains, proofs.Membership.none_in_empty}

not_idle : (tx : ℕ) (holder : Holder) → is_not_idle_of tx holder ≡ true → holder.tx ≡ tx → holder.classes ≢ 0
not_idle tx holder h own none = grind (arith, nat_tests)

stays_if : (tx : ℕ) (holder : Holder) → (holder.tx ≡ tx → holder.classes ≢ 0) → is_not_idle_of tx holder ≡ true
stays_if tx holder has = by (cases_eq holder.tx tx)
  where
    by : (holder.tx ≡ tx) ⊎ (holder.tx ≡ tx → ⊥) → is_not_idle_of tx holder ≡ true
    by (inl own) = let some = has own in grind (arith, nat_tests)
    by (inr other) = grind (arith, nat_tests)

module _ {S : Type 0} (old new : IndexMap ℕ (List Holder) S) (at : ℕ) (changes : ChangesAt old new at) where
  -- what holds of the list that changes and of those that stay holds of all
  pub at_each : (R : List Holder → List Holder → Type 0) → R (list_at old at) (list_at new at) → ((l : List Holder) → R l l) → (k : ℕ) → R (list_at old k) (list_at new k)
  at_each R here stays k = by (cases_eq k at)
    where
      by : (k ≡ at) ⊎ (k ≡ at → ⊥) → R (list_at old k) (list_at new k)
      by (inl e) = subst (λ n. R (list_at old n) (list_at new n)) (sym e) here
      by (inr ne) = subst (R (list_at old k)) (sym (changes.same k ne)) (stays (list_at old k))

  -- one comes
  module _ (tx : ℕ) (joins : Joins (list_at old at) (list_at new at) tx) where
    pub joined_keeps : (k : ℕ) (holder : Holder) → Contains (list_at old k) holder → Contains (list_at new k) holder
    joined_keeps k holder = at_each (λ a b. Contains a holder → Contains b holder) (joins.keeps holder) (λ l h. h) k

    pub joined_only : (k : ℕ) (holder : Holder) → Contains (list_at new k) holder → Contains (list_at old k) holder ⊎ ((k ≡ at) × (holder ≡ holder_of tx 0))
    joined_only k holder h = by (cases_eq k at)
      where
        own : k ≡ at → Contains (list_at old at) holder ⊎ (holder ≡ holder_of tx 0) → Contains (list_at old k) holder ⊎ ((k ≡ at) × (holder ≡ holder_of tx 0))
        own e (inl c) = inl (subst (λ n. Contains (list_at old n) holder) (sym e) c)
        own e (inr is) = inr (e, is)

        by : (k ≡ at) ⊎ (k ≡ at → ⊥) → Contains (list_at old k) holder ⊎ ((k ≡ at) × (holder ≡ holder_of tx 0))
        by (inl e) = own e (joins.only holder (subst (λ n. Contains (list_at new n) holder) e h))
        by (inr ne) = inl (subst (λ l. Contains l holder) (changes.same k ne) h)

  -- one is granted something
  module _ (tx : ℕ) (bit : Option ℕ) (grants : Grants (list_at old at) (list_at new at) tx bit) where
    pub granted_keeps : (k u n : ℕ) → HasBit (list_at old k) u n → HasBit (list_at new k) u n
    granted_keeps k u n = at_each (λ a b. HasBit a u n → HasBit b u n) (grants.keeps u n) (λ l h. h) k

    pub granted_stays : (k u : ℕ) → IsHere (list_at old k) u → IsHere (list_at new k) u
    granted_stays k u = at_each (λ a b. IsHere a u → IsHere b u) (grants.stays u) (λ l h. h) k

    pub granted_here : (k u : ℕ) → IsHere (list_at new k) u → IsHere (list_at old k) u
    granted_here k u = at_each (λ a b. IsHere b u → IsHere a u) (grants.here u) (λ l h. h) k

    pub granted_only : (k u n : ℕ) → HasBit (list_at new k) u n → HasBit (list_at old k) u n ⊎ ((k ≡ at) × (u ≡ tx) × (bit ≡ Some n))
    granted_only k u n h = by (cases_eq k at)
      where
        own : k ≡ at → HasBit (list_at old at) u n ⊎ ((u ≡ tx) × (bit ≡ Some n)) → HasBit (list_at old k) u n ⊎ ((k ≡ at) × (u ≡ tx) × (bit ≡ Some n))
        own e (inl had) = inl (subst (λ m. HasBit (list_at old m) u n) (sym e) had)
        own e (inr got) = inr (e, got.0, got.1)

        by : (k ≡ at) ⊎ (k ≡ at → ⊥) → HasBit (list_at old k) u n ⊎ ((k ≡ at) × (u ≡ tx) × (bit ≡ Some n))
        by (inl e) = own e (grants.only u n (subst (λ m. HasBit (list_at new m) u n) e h))
        by (inr ne) = inl (subst (λ l. HasBit l u n) (changes.same k ne) h)

  -- nothing changes
  pub same_lists : list_at new at ≡ list_at old at → (k : ℕ) → list_at new k ≡ list_at old k
  same_lists same = at_each (λ a b. b ≡ a) same (λ l. refl)

-- ---- places in turn

module _ {S : Type 0} where
  -- nobody came yet
  pub nobody_joined : (cells : IndexMap ℕ (List Holder) S) (tx : ℕ) → IsUnique nat_eq cells → JoinsAt cells cells [] tx
  nobody_joined cells tx unique = record { unique = unique; keeps = λ k holder h. h; only = λ k holder h. inl h }

  -- of more places the same is true
  pub joined_at_more : (old new : IndexMap ℕ (List Holder) S) (places more : List ℕ) (tx : ℕ) → ((k : ℕ) → Contains places k → Contains more k) → JoinsAt old new places tx → JoinsAt old new more tx
  joined_at_more old new places more tx wider joins = record { unique = joins.unique; keeps = joins.keeps; only = λ k holder h. by k holder (joins.only k holder h) }
    where
      by : (k : ℕ) (holder : Holder) → Contains (list_at old k) holder ⊎ (Contains places k × (holder ≡ holder_of tx 0)) → Contains (list_at old k) holder ⊎ (Contains more k × (holder ≡ holder_of tx 0))
      by k holder (inl h) = inl h
      by k holder (inr new) = inr (wider k new.0, new.1)

  -- and where nothing changed any more
  pub joined_still : (old mid new : IndexMap ℕ (List Holder) S) (places : List ℕ) (tx : ℕ) → JoinsAt old mid places tx → ((k : ℕ) → list_at new k ≡ list_at mid k) → IsUnique nat_eq new → JoinsAt old new places tx
  joined_still old mid new places tx joins same unique = record {
    unique = unique;
    keeps = λ k holder h. subst (λ l. Contains l holder) (sym (same k)) (joins.keeps k holder h);
    only = λ k holder h. joins.only k holder (subst (λ l. Contains l holder) (same k) h);
  }

  module _ (start old new : IndexMap ℕ (List Holder) S) (places : List ℕ) (place tx : ℕ) (changes : ChangesAt old new place) where
    abbrev more : List ℕ
    more = places ++ place ∷ []

    seen : (k : ℕ) → Contains places k → Contains more k
    seen k h = Contains-append_left places (place ∷ []) k h

    this : (k : ℕ) → k ≡ place → Contains more k
    this k e = subst (Contains more) (sym e) (Contains-push places place)

    -- one comes at one place more
    module _ (so_far : JoinsAt start old places tx) (joins : Joins (list_at old place) (list_at new place) tx) where
      joined_by : (k : ℕ) (holder : Holder) → Contains (list_at start k) holder ⊎ (Contains places k × (holder ≡ holder_of tx 0)) → Contains (list_at start k) holder ⊎ (Contains more k × (holder ≡ holder_of tx 0))
      joined_by k holder (inl h) = inl h
      joined_by k holder (inr came) = inr (seen k came.0, came.1)

      joined_or : (k : ℕ) (holder : Holder) → Contains (list_at old k) holder ⊎ ((k ≡ place) × (holder ≡ holder_of tx 0)) → Contains (list_at start k) holder ⊎ (Contains more k × (holder ≡ holder_of tx 0))
      joined_or k holder (inl h) = joined_by k holder (so_far.only k holder h)
      joined_or k holder (inr came) = inr (this k came.0, came.1)

      pub joined_more : JoinsAt start new more tx
      joined_more = record {
        unique = changes.unique;
        keeps = λ k holder h. joined_keeps old new place changes tx joins k holder (so_far.keeps k holder h);
        only = λ k holder h. joined_or k holder (joined_only old new place changes tx joins k holder h);
      }

      here_by : IsHereAt old places tx → (k : ℕ) → Contains places k ⊎ (place ≡ k) → IsHere (list_at new k) tx
      here_by here k (inl h) = let was = here k h in (was.0, joined_keeps old new place changes tx joins k (holder_of tx was.0) was.1)
      here_by here k (inr e) = subst (λ n. IsHere (list_at new n) tx) e joins.here

      pub here_more : IsHereAt old places tx → IsHereAt new more tx
      here_more here k h = here_by here k (Contains-push_cases places place k h)

    -- one is granted something at one place more
    module _ (bit : Option ℕ) (so_far : GrantsAt start old places tx bit) (grants : Grants (list_at old place) (list_at new place) tx bit) where
      got_by : (k n : ℕ) → bit ≡ Some n → Contains places k ⊎ (place ≡ k) → HasBit (list_at new k) tx n
      got_by k n is (inl h) = granted_keeps old new place changes tx bit grants k tx n (so_far.granted k n h is)
      got_by k n is (inr e) = subst (λ m. HasBit (list_at new m) tx n) e (grants.granted n is)

      had_by : (k u n : ℕ) → HasBit (list_at start k) u n ⊎ (Contains places k × (u ≡ tx) × (bit ≡ Some n)) → HasBit (list_at start k) u n ⊎ (Contains more k × (u ≡ tx) × (bit ≡ Some n))
      had_by k u n (inl h) = inl h
      had_by k u n (inr got) = inr (seen k got.0, got.1, got.2)

      had_or : (k u n : ℕ) → HasBit (list_at old k) u n ⊎ ((k ≡ place) × (u ≡ tx) × (bit ≡ Some n)) → HasBit (list_at start k) u n ⊎ (Contains more k × (u ≡ tx) × (bit ≡ Some n))
      had_or k u n (inl h) = had_by k u n (so_far.only k u n h)
      had_or k u n (inr got) = inr (this k got.0, got.1, got.2)

      pub granted_more : GrantsAt start new more tx bit
      granted_more = record {
        unique = changes.unique;
        granted = λ k n h is. got_by k n is (Contains-push_cases places place k h);
        keeps = λ k u n h. granted_keeps old new place changes tx bit grants k u n (so_far.keeps k u n h);
        only = λ k u n h. had_or k u n (granted_only old new place changes tx bit grants k u n h);
        stays = λ k u h. granted_stays old new place changes tx bit grants k u (so_far.stays k u h);
        here = λ k u h. so_far.here k u (granted_here old new place changes tx bit grants k u h);
      }

    -- one gives up one place more
    module _ (kept : List ℕ) (so_far : GivesUp start old places kept tx) (free : Contains kept place → ⊥) (is : list_at new place ≡ filter (is_not_idle_of tx) (list_at old place)) where
      left : (holder : Holder) → Contains (list_at new place) holder → Contains (list_at old place) holder × (is_not_idle_of tx holder ≡ true)
      left holder h = contains_filtered (is_not_idle_of tx) (list_at old place) holder (subst (λ l. Contains l holder) is h)

      was : (k : ℕ) (holder : Holder) → Contains (list_at new k) holder → Contains (list_at old k) holder
      was k holder = at_each old new place changes (λ a b. Contains b holder → Contains a holder) (λ h. (left holder h).0) (λ l h. h) k

      gone_by : (k : ℕ) (holder : Holder) → Contains (list_at new k) holder → holder.tx ≡ tx → (Contains kept k → ⊥) → Contains places k ⊎ (place ≡ k) → holder.classes ≢ 0
      gone_by k holder h own unkept (inl c) = so_far.gone k holder (was k holder h) own (c, unkept)
      gone_by k holder h own unkept (inr e) = not_idle tx holder (left holder (subst (λ n. Contains (list_at new n) holder) (sym e) h)).1 own

      stays_by : (k : ℕ) (holder : Holder) → (holder.tx ≡ tx → IsGivenUp more kept k → holder.classes ≢ 0) → Contains (list_at old k) holder → (k ≡ place) ⊎ (k ≡ place → ⊥) → Contains (list_at new k) holder
      stays_by k holder has h (inr ne) = subst (λ l. Contains l holder) (sym (changes.same k ne)) h
      stays_by k holder has h (inl e) =
          let passes = stays_if tx holder (λ own. has own (this k e, λ c. free (subst (Contains kept) e c))) in
          subst (λ n. Contains (list_at new n) holder) (sym e) (subst (λ l. Contains l holder) (sym is) (filter_contains (is_not_idle_of tx) (list_at old place) holder (subst (λ n. Contains (list_at old n) holder) e h) passes))

      pub gives_up_more : GivesUp start new more kept tx
      gives_up_more = record {
        unique = changes.unique;
        only = λ k holder h. so_far.only k holder (was k holder h);
        gone = λ k holder h own given. gone_by k holder h own given.1 (Contains-push_cases places place k given.0);
        keeps = λ k holder has h. stays_by k holder has (so_far.keeps k holder (λ own given. has own (seen k given.0, given.1)) h) (cases_eq k place);
      }

  -- nobody was granted anything yet
  pub nobody_granted : (cells : IndexMap ℕ (List Holder) S) (tx : ℕ) (bit : Option ℕ) → IsUnique nat_eq cells → GrantsAt cells cells [] tx bit
  nobody_granted cells tx bit unique = record {
    unique = unique;
    granted = λ k n h is. absurd (none_in_empty k h);
    keeps = λ k u n h. h;
    only = λ k u n h. inl h;
    stays = λ k u h. h;
    here = λ k u h. h;
  }

  -- nothing was given up yet
  pub nothing_given_up : (cells : IndexMap ℕ (List Holder) S) (kept : List ℕ) (tx : ℕ) → IsUnique nat_eq cells → GivesUp cells cells [] kept tx
  nothing_given_up cells kept tx unique = record {
    unique = unique;
    only = λ k holder h. h;
    gone = λ k holder h own given. absurd (none_in_empty k given.0);
    keeps = λ k holder has h. h;
  }

  -- one place more, which is one to keep
  pub gives_up_kept : (start old : IndexMap ℕ (List Holder) S) (places kept : List ℕ) (place tx : ℕ) → GivesUp start old places kept tx → Contains kept place → GivesUp start old (places ++ place ∷ []) kept tx
  gives_up_kept start old places kept place tx so_far there = record {
    unique = so_far.unique;
    only = so_far.only;
    gone = λ k holder h own given. gone_by k holder h own given.1 (Contains-push_cases places place k given.0);
    keeps = λ k holder has h. so_far.keeps k holder (λ own given. has own (Contains-append_left places (place ∷ []) k given.0, given.1)) h;
  }
    where
      gone_by : (k : ℕ) (holder : Holder) → Contains (list_at old k) holder → holder.tx ≡ tx → (Contains kept k → ⊥) → Contains places k ⊎ (place ≡ k) → holder.classes ≢ 0
      gone_by k holder h own unkept (inl c) = so_far.gone k holder h own (c, unkept)
      gone_by k holder h own unkept (inr e) = absurd (unkept (subst (Contains kept) e there))

  -- where a place is noted of each that has a class there, so it is once more is granted and noted
  pub bits_noted_more : (old new : IndexMap ℕ (List Holder) S) (noted more : List (ℕ × KeysWithRoom)) (places : List ℕ) (tx : ℕ) (bit : Option ℕ) → AreBitsNoted old noted → GrantsAt old new places tx bit → SameNoted noted more tx → NotesEach (noted_of noted tx).keys (noted_of more tx).keys places → AreBitsNoted new more
  bits_noted_more old new noted more places tx bit are grants same notes = λ k u n h. by k u n (grants.only k u n h) (cases_eq u tx)
    where
      by : (k u n : ℕ) → HasBit (list_at old k) u n ⊎ (Contains places k × (u ≡ tx) × (bit ≡ Some n)) → (u ≡ tx) ⊎ (u ≡ tx → ⊥) → Contains (noted_of more u).keys k
      by k u n (inl h) (inl e) = subst (λ m. Contains (noted_of more m).keys k) (sym e) (notes.keeps k (subst (λ m. Contains (noted_of noted m).keys k) e (are k u n h)))
      by k u n (inl h) (inr ne) = subst (λ (m : KeysWithRoom). Contains m.keys k) (sym (same u ne)) (are k u n h)
      by k u n (inr got) e = subst (λ m. Contains (noted_of more m).keys k) (sym got.1) (notes.there k got.0)
