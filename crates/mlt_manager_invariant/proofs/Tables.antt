-- The table of open transactions, with one of them changed or left out
use Rattle.std.proofs.Common.{is_some, subst, ◌≡◌, ◌≢◌, ℕ, None, Some, sym, ap, ◌∙◌, inl, inr, arith, nat_cmp}
use Rattle.std.specs.FinMap as map
use Rattle.std.specs.FinSet as set
use Rattle.mlt_manager_invariant.proofs.Names.{cases_eq, nat_tests, get_removed, same_entries, Transaction, Fits, State, images_kept, is_undoing, is_undoing_at, undoing_of}
use Rattle.mlt_page_locks.proofs.Maps.{get_inserted}

module _ {X : Type 0} (m : map.FinMap nat_cmp X) (i : ℕ) (x : X) where
  pub inserted_here : map.get (map.insert m i x) i ≡ Some x
  inserted_here = grind (arith, nat_tests, get_inserted m i x i)

  pub inserted_elsewhere : (j : ℕ) → j ≢ i → map.get (map.insert m i x) j ≡ map.get m j
  inserted_elsewhere j ne = grind (arith, nat_tests, get_inserted m i x j)

module _ {X : Type 0} (m : map.FinMap nat_cmp X) (i : ℕ) where
  pub removed_here : map.get (map.remove m i) i ≡ None
  removed_here = grind (arith, nat_tests, get_removed m i i)

  pub removed_elsewhere : (j : ℕ) → j ≢ i → map.get (map.remove m i) j ≡ map.get m j
  removed_elsewhere j ne = grind (arith, nat_tests, get_removed m i j)

  pub removed_inserted : (x : X) → map.remove (map.insert m i x) i ≡ map.remove m i
  removed_inserted x = same_entries _ _ (λ q. grind (arith, nat_tests, cases_eq q i, get_removed (map.insert m i x) i q, get_removed m i q, get_inserted m i x q))

-- who is being undone stays, where the one that changes stays so
pub same_undoing : (txs : map.FinMap nat_cmp Transaction) (i : ℕ) (before after : Transaction) → map.get txs i ≡ Some before → is_undoing after.at ≡ is_undoing before.at
    → (j : ℕ) → undoing_of (map.insert txs i after) j ≡ undoing_of txs j
same_undoing txs i before after was same j =
    elim (cases_eq j i) [
      | inl here ↦ ap (λ k. undoing_of (map.insert txs i after) k) here ∙ ap is_undoing_at (inserted_here txs i after) ∙ same ∙ sym (ap is_undoing_at was) ∙ sym (ap (λ k. undoing_of txs k) here)
      | inr differ ↦ ap is_undoing_at (inserted_elsewhere txs i after j differ)
    ]

-- the images that the open transactions keep, once one of them keeps none
pub kept_after : (s : State) (i : ℕ) (after : Transaction) → ((j : ℕ) → map.get s.images j ≡ images_kept (map.get s.txs j)) → after.subtx.images ≡ map.empty
    → (j : ℕ) → map.get (map.insert s.images i map.empty) j ≡ images_kept (map.get (map.insert s.txs i after) j)
kept_after s i after kept none j = elim (cases_eq j i) [
  | inl here ↦ ap (λ n. map.get (map.insert s.images i map.empty) n) here ∙ inserted_here s.images i map.empty ∙ ap Some (sym none)
      ∙ sym (ap images_kept (ap (λ n. map.get (map.insert s.txs i after) n) here ∙ inserted_here s.txs i after))
  | inr differ ↦ inserted_elsewhere s.images i map.empty j differ ∙ kept j ∙ ap images_kept (sym (inserted_elsewhere s.txs i after j differ))
]

-- who is open, where one that is open changes
pub opened_after : (s : State) (i : ℕ) (before after : Transaction) → map.get s.txs i ≡ Some before → ((j : ℕ) → set.contains s.active j ≡ is_some (map.get s.txs j))
    → (j : ℕ) → set.contains s.active j ≡ is_some (map.get (map.insert s.txs i after) j)
opened_after s i before after was opened j = elim (cases_eq j i) [
  | inl here ↦ ap (λ n. set.contains s.active n) here ∙ opened i ∙ ap is_some was ∙ sym (ap is_some (ap (λ n. map.get (map.insert s.txs i after) n) here ∙ inserted_here s.txs i after))
  | inr differ ↦ opened j ∙ ap is_some (sym (inserted_elsewhere s.txs i after j differ))
]

-- all open transactions fit, where one of them changes
pub fits_after : (s new : State) (i : ℕ) (after : Transaction) → new.txs ≡ map.insert s.txs i after → Fits new i after
    → ((j : ℕ) (t : Transaction) → j ≢ i → map.get s.txs j ≡ Some t → Fits new j t)
    → (j : ℕ) (t : Transaction) → map.get new.txs j ≡ Some t → Fits new j t
fits_after s new i after is own others j t found = elim (cases_eq j i) [
  | inl here ↦
      let both : Some after ≡ Some t = sym (inserted_here s.txs i after) ∙ sym (ap (λ n. map.get (map.insert s.txs i after) n) here) ∙ sym (ap (λ m. map.get m j) is) ∙ found in
      let same : after ≡ t = cc in
      subst (λ n. Fits new n t) (sym here) (subst (Fits new i) same own)
  | inr differ ↦ others j t differ (sym (inserted_elsewhere s.txs i after j differ) ∙ sym (ap (λ m. map.get m j) is) ∙ found)
]
