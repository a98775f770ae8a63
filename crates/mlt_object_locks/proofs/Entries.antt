-- Lists of entries, each of a transaction.
use Rattle.mlt_object_locks.proofs.Names.{zero, cases_eq, nat_tests, take_more, Contains-get_or, position-Some, HasEachOnce, is_entry_of, value_of}
use Rattle.std.proofs.Common.{◌≡◌, ◌≢◌, ◌⊎◌, ℕ, suc, ◌+◌, ◌-◌, ◌<◌, if◌then◌else◌, ◌==◌, inl, inr, take, take_all, List, [], ◌∷◌, ◌++◌, false, None, Some, nat_eq, length, length-append, slice_get, get_or, set, sym, ap, subst, ◌∙◌, refl, arith, unwrap_or, position, swap_remove}
use Rattle.std.proofs.lemmas.List.Sums.{position_or_len_is}
use Rattle.mlt_object_locks.proofs.Membership.{some_found}

pub differ : (a b : ℕ) → b ≢ a → nat_eq a b ≡ false
differ a b ne = grind (arith, nat_tests)

module _ {X : Type 0} where
  -- where the transaction is not found, it has nothing
  pub nothing_found : (entries : List (ℕ × X)) (tx : ℕ) → position (is_entry_of tx) entries ≡ None → value_of entries tx ≡ None
  nothing_found entries tx is = by entries (λ k d lt. not_there k d lt)
    where
      not_there : (k : ℕ) (d : ℕ × X) → k < length entries → (get_or entries k d).0 ≢ tx
      not_there k d lt own = some_found (is_entry_of tx) entries (get_or entries k d) (Contains-get_or entries k d lt) (grind (arith, nat_tests)) is

      by : (list : List (ℕ × X)) → ((k : ℕ) (d : ℕ × X) → k < length list → (get_or list k d).0 ≢ tx) → value_of list tx ≡ None
      by [] none = refl
      by (entry ∷ list) none = let own = none 0 entry (omega arith) in let rest = by list (λ k d lt. none (suc k) d (omega arith)) in grind (arith, nat_tests)

  -- ---- one that had nothing comes

  pub pushed_own : (entries : List (ℕ × X)) (tx : ℕ) (x : X) → value_of entries tx ≡ None → value_of (entries ++ (tx, x) ∷ []) tx ≡ Some x
  pushed_own [] tx x none = grind (arith, nat_tests)
  pushed_own (entry ∷ entries) tx x none = let rest = pushed_own entries tx x in grind (arith, nat_tests)

  pub pushed_other : (entries : List (ℕ × X)) (tx : ℕ) (x : X) (u : ℕ) → u ≢ tx → value_of (entries ++ (tx, x) ∷ []) u ≡ value_of entries u
  pushed_other [] tx x u ne = grind (arith, nat_tests)
  pushed_other (entry ∷ entries) tx x u ne = let rest = pushed_other entries tx x u ne in grind (arith, nat_tests)

  pub pushed_once : (entries : List (ℕ × X)) (tx : ℕ) (x : X) → value_of entries tx ≡ None → HasEachOnce entries → HasEachOnce (entries ++ (tx, x) ∷ [])
  pushed_once [] tx x none once = (refl, once)
  pushed_once (entry ∷ entries) tx x none once =
      let other : entry.0 ≢ tx = λ e. (let same = e in grind (arith, nat_tests)) in
      (pushed_other entries tx x entry.0 other ∙ once.0, pushed_once entries tx x (grind (arith, nat_tests)) once.1)

  -- ---- the last goes

  at_end : (rest : List (ℕ × X)) (last : ℕ × X) → slice_get (rest ++ last ∷ []) (length rest) ≡ Some last
  at_end [] last = refl
  at_end (entry ∷ rest) last = at_end rest last

  before_last : (rest : List (ℕ × X)) (last : ℕ × X) → HasEachOnce (rest ++ last ∷ []) → (value_of rest last.0 ≡ None) × HasEachOnce rest
  before_last [] last once = (refl, once.1)
  before_last (entry ∷ rest) last once =
      let before = before_last rest last once.1 in
      let own = pushed_own rest last.0 last.1 before.0 in
      let other : entry.0 ≢ last.0 = λ e. (let none = once.0 in let same = e in grind (arith, nat_tests)) in
      let still = sym (pushed_other rest last.0 last.1 entry.0 other) ∙ once.0 in
      (grind (arith, nat_tests), (still, before.1))

  module _ (entries rest : List (ℕ × X)) (last : ℕ × X) (is : entries ≡ rest ++ last ∷ []) where
    pub last_is : (found : ℕ × X) → slice_get entries (length entries - 1) ≡ Some found → found ≡ last
    last_is found there =
        let len = ap length is in
        let longer = length-append rest (last ∷ []) in
        let end : length entries - 1 ≡ length rest = omega arith in
        ap (λ o. unwrap_or o last) (sym there ∙ (λ j. slice_get (is j) (end j)) ∙ at_end rest last)

    module _ (tx : ℕ) (own : last.0 ≡ tx) (once : HasEachOnce entries) where
      before : (value_of rest last.0 ≡ None) × HasEachOnce rest
      before = before_last rest last (subst HasEachOnce is once)

      pub popped_value : value_of entries tx ≡ Some last.1
      popped_value = (λ j. value_of (is j) (sym own j)) ∙ pushed_own rest last.0 last.1 before.0

      pub popped_own : value_of rest tx ≡ None
      popped_own = ap (value_of rest) (sym own) ∙ before.0

      pub popped_other : (u : ℕ) → u ≢ tx → value_of rest u ≡ value_of entries u
      popped_other u ne = sym (pushed_other rest last.0 last.1 u (λ e. ne (e ∙ own))) ∙ ap (λ l. value_of l u) (sym is)

      pub popped_once : HasEachOnce rest
      popped_once = before.1

  -- ---- the last takes the place of another

  -- it comes to the front as well as to the end
  in_front : (rest : List (ℕ × X)) (last : ℕ × X) → value_of rest last.0 ≡ None → (u : ℕ) → value_of (last ∷ rest) u ≡ value_of (rest ++ last ∷ []) u
  in_front rest last none u = by (cases_eq u last.0)
    where
      by : (u ≡ last.0) ⊎ (u ≡ last.0 → ⊥) → value_of (last ∷ rest) u ≡ value_of (rest ++ last ∷ []) u
      by (inl e) = let own = pushed_own rest last.0 last.1 none in grind (arith, nat_tests)
      by (inr ne) = let other = pushed_other rest last.0 last.1 u ne in grind (arith, nat_tests)

  not_there : (entries : List (ℕ × X)) (u : ℕ) → value_of entries u ≡ None → (at : ℕ) (d : ℕ × X) → at < length entries → (get_or entries at d).0 ≢ u
  not_there [] u none at d lt = absurd (omega arith)
  not_there (entry ∷ entries) u none zero d lt = λ e. (let same = e in grind (arith, nat_tests))
  not_there (entry ∷ entries) u none (suc at) d lt = not_there entries u (grind (arith, nat_tests)) at d (omega arith)

  last_apart : (entries : List (ℕ × X)) (d : ℕ × X) → 0 < length entries → entries ≡ take (length entries - 1) entries ++ get_or entries (length entries - 1) d ∷ []
  last_apart entries d some = sym (take_all (length entries - 1 + 1) entries (omega arith)) ∙ take_more entries (length entries - 1) d (omega arith)

  module _ (entry : ℕ × X) (entries : List (ℕ × X)) (d : ℕ × X) (some : 0 < length entries) where
    further : suc (length entries) - 1 ≡ suc (length entries - 1)
    further = omega arith

    swapped_first : swap_remove (entry ∷ entries) 0 d ≡ get_or entries (length entries - 1) d ∷ take (length entries - 1) entries
    swapped_first = ap (λ k. take k (get_or (entry ∷ entries) k d ∷ entries)) further

    swapped_later : (at : ℕ) → swap_remove (entry ∷ entries) (suc at) d ≡ entry ∷ swap_remove entries at d
    swapped_later at = ap (λ k. take k (entry ∷ set entries at (get_or (entry ∷ entries) k d))) further

  swapped_value : (u : ℕ) (entries : List (ℕ × X)) (at : ℕ) (d : ℕ × X) → at < length entries → HasEachOnce entries
      → value_of (swap_remove entries at d) u ≡ (if (get_or entries at d).0 == u then None else value_of entries u)
  swapped_value u [] at d lt once = absurd (omega arith)
  swapped_value u (entry ∷ []) zero d lt once = grind (arith, nat_tests)
  swapped_value u (entry ∷ next ∷ entries) zero d lt once =
      let some : 0 < length (next ∷ entries) = omega arith in
      let apart = last_apart (next ∷ entries) d some in
      let before = before_last _ _ (subst HasEachOnce apart once.1) in
      let front = ap (λ l. value_of l u) (swapped_first entry (next ∷ entries) d some) ∙ in_front _ _ before.0 u ∙ ap (λ l. value_of l u) (sym apart) in
      let none = once.0 in
      by (cases_eq entry.0 u) front
    where
      by : (entry.0 ≡ u) ⊎ (entry.0 ≡ u → ⊥) → value_of (swap_remove (entry ∷ next ∷ entries) 0 d) u ≡ value_of (next ∷ entries) u
          → value_of (swap_remove (entry ∷ next ∷ entries) 0 d) u ≡ (if entry.0 == u then None else value_of (entry ∷ next ∷ entries) u)
      by (inl e) front = front ∙ ap (value_of (next ∷ entries)) (sym e) ∙ once.0 ∙ grind (arith, nat_tests)
      by (inr ne) front = front ∙ grind (arith, nat_tests)
  swapped_value u (entry ∷ entries) (suc at) d lt once =
      let rest = swapped_value u entries at d (omega arith) once.1 in
      let apart = not_there entries entry.0 once.0 at d (omega arith) in
      ap (λ l. value_of l u) (swapped_later entry entries d (omega arith) at) ∙ grind (arith, nat_tests)

  swapped_once : (entries : List (ℕ × X)) (at : ℕ) (d : ℕ × X) → at < length entries → HasEachOnce entries → HasEachOnce (swap_remove entries at d)
  swapped_once [] at d lt once = absurd (omega arith)
  swapped_once (entry ∷ []) zero d lt once = tt
  swapped_once (entry ∷ next ∷ entries) zero d lt once =
      let some : 0 < length (next ∷ entries) = omega arith in
      subst HasEachOnce (sym (swapped_first entry (next ∷ entries) d some)) (before_last _ _ (subst HasEachOnce (last_apart (next ∷ entries) d some) once.1))
  swapped_once (entry ∷ entries) (suc at) d lt once =
      let value = swapped_value entry.0 entries at d (omega arith) once.1 in
      let none = once.0 in
      subst HasEachOnce (sym (swapped_later entry entries d (omega arith) at)) (grind (arith, nat_tests), swapped_once entries at d (omega arith) once.1)

  -- ---- one that is found

  -- the entry at this index is the first of the transaction
  record IsFirstOf (entries : List (ℕ × X)) (tx at : ℕ) (d : ℕ × X) : Type 0 where
    within : at < length entries
    own : (get_or entries at d).0 ≡ tx
    before : (k : ℕ) → k < at → (get_or entries k d).0 ≢ tx

  is_first : (entries : List (ℕ × X)) (tx at : ℕ) (d : ℕ × X) → position (is_entry_of tx) entries ≡ Some at → IsFirstOf entries tx at d
  is_first entries tx at d is =
      let p = position-Some (is_entry_of tx) entries at d is in
      record {
        within = p.0;
        own = let test = p.1 in grind (arith, nat_tests);
        before = λ k lt e. let test = p.2 k lt in grind (arith, nat_tests);
      }

  module _ (tx : ℕ) (d : ℕ × X) where
    next : (entry : ℕ × X) (entries : List (ℕ × X)) (at : ℕ) → IsFirstOf (entry ∷ entries) tx (suc at) d → IsFirstOf entries tx at d
    next entry entries at first = record {
      within = let lt = first.within in omega arith;
      own = first.own;
      before = λ k lt. first.before (suc k) (omega arith);
    }

    not_yet : (entry : ℕ × X) (entries : List (ℕ × X)) (at : ℕ) → IsFirstOf (entry ∷ entries) tx (suc at) d → entry.0 ≢ tx
    not_yet entry entries at first = first.before 0 (omega arith)

    value_first : (entries : List (ℕ × X)) (at : ℕ) → IsFirstOf entries tx at d → value_of entries tx ≡ Some (get_or entries at d).1
    value_first [] at first = let lt = first.within in absurd (omega arith)
    value_first (entry ∷ entries) zero first = let own : entry.0 ≡ tx = first.own in grind (arith, nat_tests)
    value_first (entry ∷ entries) (suc at) first =
        let rest = value_first entries at (next entry entries at first) in let other = not_yet entry entries at first in grind (arith, nat_tests)

    -- another entry of the transaction in its place
    module _ (new : ℕ × X) (same : new.0 ≡ tx) where
      set_own : (entries : List (ℕ × X)) (at : ℕ) → IsFirstOf entries tx at d → value_of (set entries at new) tx ≡ Some new.1
      set_own [] at first = let lt = first.within in absurd (omega arith)
      set_own (entry ∷ entries) zero first = grind (arith, nat_tests)
      set_own (entry ∷ entries) (suc at) first =
          let rest = set_own entries at (next entry entries at first) in let other = not_yet entry entries at first in grind (arith, nat_tests)

      set_other : (u : ℕ) → u ≢ tx → (entries : List (ℕ × X)) (at : ℕ) → IsFirstOf entries tx at d → value_of (set entries at new) u ≡ value_of entries u
      set_other u ne [] at first = let lt = first.within in absurd (omega arith)
      set_other u ne (entry ∷ entries) zero first = let own : entry.0 ≡ tx = first.own in grind (arith, nat_tests)
      set_other u ne (entry ∷ entries) (suc at) first = let rest = set_other u ne entries at (next entry entries at first) in grind (arith, nat_tests)

      set_none : (u : ℕ) (entries : List (ℕ × X)) (at : ℕ) → IsFirstOf entries tx at d → value_of entries u ≡ None → value_of (set entries at new) u ≡ None
      set_none u [] at first none = let lt = first.within in absurd (omega arith)
      set_none u (entry ∷ entries) zero first none = let own : entry.0 ≡ tx = first.own in grind (arith, nat_tests)
      set_none u (entry ∷ entries) (suc at) first none = let rest = set_none u entries at (next entry entries at first) in grind (arith, nat_tests)

      set_once : (entries : List (ℕ × X)) (at : ℕ) → IsFirstOf entries tx at d → HasEachOnce entries → HasEachOnce (set entries at new)
      set_once [] at first once = let lt = first.within in absurd (omega arith)
      set_once (entry ∷ entries) zero first once = (subst (λ u. value_of entries u ≡ None) (first.own ∙ sym same) once.0, once.1)
      set_once (entry ∷ entries) (suc at) first once =
          let rest = next entry entries at first in (set_none entry.0 entries at rest once.0, set_once entries at rest once.1)

  module _ (entries : List (ℕ × X)) (tx at : ℕ) (d : ℕ × X) (is : position (is_entry_of tx) entries ≡ Some at) where
    within : at < length entries
    within = (is_first entries tx at d is).within

    pub found_own : (get_or entries at d).0 ≡ tx
    found_own = (is_first entries tx at d is).own

    pub found_value : value_of entries tx ≡ Some (get_or entries at d).1
    found_value = value_first tx d entries at (is_first entries tx at d is)

    -- what it has is taken away
    module _ (once : HasEachOnce entries) where
      pub taken_own : value_of (swap_remove entries at d) tx ≡ None
      taken_own = let value = swapped_value tx entries at d within once in let own = found_own in grind (arith, nat_tests)

      pub taken_other : (u : ℕ) → u ≢ tx → value_of (swap_remove entries at d) u ≡ value_of entries u
      taken_other u ne = let value = swapped_value u entries at d within once in let own = found_own in grind (arith, nat_tests)

      pub taken_once : HasEachOnce (swap_remove entries at d)
      taken_once = swapped_once entries at d within once

    -- or it gets another value
    pub changed_own : (new : ℕ × X) → new.0 ≡ tx → value_of (set entries at new) tx ≡ Some new.1
    changed_own new same = set_own tx d new same entries at (is_first entries tx at d is)

    pub changed_other : (new : ℕ × X) → new.0 ≡ tx → (u : ℕ) → u ≢ tx → value_of (set entries at new) u ≡ value_of entries u
    changed_other new same u ne = set_other tx d new same u ne entries at (is_first entries tx at d is)

    pub changed_once : (new : ℕ × X) → new.0 ≡ tx → HasEachOnce entries → HasEachOnce (set entries at new)
    changed_once new same once = set_once tx d new same entries at (is_first entries tx at d is) once

  -- where one of the transaction is, it is found
  pub found_where : (entries : List (ℕ × X)) (tx at : ℕ) (d : ℕ × X) → HasEachOnce entries → at < length entries → (get_or entries at d).0 ≡ tx → position (is_entry_of tx) entries ≡ Some at
  found_where entries tx at d once lt own =
      let first = position_or_len_is (is_entry_of tx) entries at d (omega arith) (λ k before. not_of k (earlier entries tx at once lt own k before)) (λ _. grind (arith, nat_tests)) in
      grind (arith, nat_tests)
    where
      earlier : (entries : List (ℕ × X)) (tx at : ℕ) → HasEachOnce entries → at < length entries → (get_or entries at d).0 ≡ tx → (k : ℕ) → k < at → (get_or entries k d).0 ≢ tx
      earlier [] tx at once lt own k before = absurd (omega arith)
      earlier (entry ∷ entries) tx zero once lt own k before = absurd (omega arith)
      earlier (entry ∷ entries) tx (suc at) once lt own zero before = λ e. not_there entries entry.0 once.0 at d (omega arith) (own ∙ sym e)
      earlier (entry ∷ entries) tx (suc at) once lt own (suc k) before = earlier entries tx at once.1 (omega arith) own k (omega arith)

      not_of : (k : ℕ) → (get_or entries k d).0 ≢ tx → is_entry_of tx (get_or entries k d) ≡ false
      not_of k ne = grind (arith, nat_tests)
