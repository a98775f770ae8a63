-- A transaction that is released, a cell at a time.
use Rattle.std.proofs.Common.{◌≡◌, ◌≢◌, ◌⊎◌, ℕ, List, [], ◌∷◌, ◌++◌, true, nat_eq, Contains, sym, ap, subst, ◌∙◌, inl, inr, arith, filter}
use Rattle.mlt_object_locks.proofs.Names.{cases_eq, nat_tests, Contains-append_left, Contains-push, Contains-push_cases, IndexMap, IsUnique, Holder, is_not_of, list_at, ChangesAt, ReleasesAt}
use Rattle.mlt_object_locks.proofs.Membership.{contains_cases, none_in_empty, contains_filtered, filter_contains}

module _ {S : Type 0} where
  -- no cell is seen yet
  pub none_released : (cells : IndexMap ℕ (List Holder) S) (tx : ℕ) → IsUnique nat_eq cells → ReleasesAt cells cells [] tx
  none_released cells tx unique = record {
    only = λ key holder h. h;
    gone = λ key holder h. absurd (none_in_empty key h);
    keeps = λ key holder other h. h;
    unique = unique;
  }

  -- of fewer places the same is true
  pub releases_also : (start now : IndexMap ℕ (List Holder) S) (keys fewer : List ℕ) (tx : ℕ) → ((k : ℕ) → Contains fewer k → Contains keys k) → ReleasesAt start now keys tx → ReleasesAt start now fewer tx
  releases_also start now keys fewer tx among releases = record {
    only = releases.only;
    gone = λ key holder h. releases.gone key holder (among key h);
    keeps = releases.keeps;
    unique = releases.unique;
  }

  module _ (start old new : IndexMap ℕ (List Holder) S) (keys : List ℕ) (key tx : ℕ) (so_far : ReleasesAt start old keys tx) (changes : ChangesAt old new key)
      (released : list_at new key ≡ filter (is_not_of tx) (list_at old key)) where
    at_key : (k : ℕ) → k ≡ key → list_at new k ≡ filter (is_not_of tx) (list_at old k)
    at_key k e = ap (list_at new) e ∙ released ∙ ap (λ n. filter (is_not_of tx) (list_at old n)) (sym e)

    differs : (holder : Holder) → is_not_of tx holder ≡ true → holder.tx ≢ tx
    differs holder h e = grind (arith, nat_tests)

    passes : (holder : Holder) → holder.tx ≢ tx → is_not_of tx holder ≡ true
    passes holder h = grind (arith, nat_tests)

    still : (k : ℕ) (holder : Holder) → Contains (list_at new k) holder → (k ≡ key) ⊎ (k ≡ key → ⊥) → Contains (list_at old k) holder
    still k holder h (inl e) = (contains_filtered (is_not_of tx) (list_at old k) holder (subst (λ l. Contains l holder) (at_key k e) h)).0
    still k holder h (inr ne) = subst (λ l. Contains l holder) (changes.same k ne) h

    of_others : (holder : Holder) → Contains (list_at new key) holder → holder.tx ≢ tx
    of_others holder h = differs holder (contains_filtered (is_not_of tx) (list_at old key) holder (subst (λ l. Contains l holder) released h)).1

    kept : (k : ℕ) (holder : Holder) → holder.tx ≢ tx → Contains (list_at old k) holder → (k ≡ key) ⊎ (k ≡ key → ⊥) → Contains (list_at new k) holder
    kept k holder other h (inl e) = subst (λ l. Contains l holder) (sym (at_key k e)) (filter_contains (is_not_of tx) (list_at old k) holder h (passes holder other))
    kept k holder other h (inr ne) = subst (λ l. Contains l holder) (sym (changes.same k ne)) h

    gone_by : (k : ℕ) (holder : Holder) → Contains keys k ⊎ (key ≡ k) → Contains (list_at new k) holder → holder.tx ≢ tx
    gone_by k holder (inl seen) h = so_far.gone k holder seen (still k holder h (cases_eq k key))
    gone_by k holder (inr e) h = of_others holder (subst (λ n. Contains (list_at new n) holder) (sym e) h)

    -- one cell more
    pub release_more : ReleasesAt start new (keys ++ key ∷ []) tx
    release_more = record {
      only = λ k holder h. so_far.only k holder (still k holder h (cases_eq k key));
      gone = λ k holder seen h. gone_by k holder (Contains-push_cases keys key k seen) h;
      keeps = λ k holder other h. kept k holder other (so_far.keeps k holder other h) (cases_eq k key);
      unique = changes.unique;
    }

    among_all : (k : ℕ) → (key ≡ k) ⊎ Contains keys k → Contains (keys ++ key ∷ []) k
    among_all k (inl e) = subst (Contains (keys ++ key ∷ [])) e (Contains-push keys key)
    among_all k (inr h) = Contains-append_left keys (key ∷ []) k h

    -- the same in front of the others
    pub release_sooner : ReleasesAt start new (key ∷ keys) tx
    release_sooner = releases_also start new (keys ++ key ∷ []) (key ∷ keys) tx (λ k h. among_all k (contains_cases key keys k h)) release_more
