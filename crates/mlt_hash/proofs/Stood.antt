-- What stood in the slots that a wide pass wrote for its first key, and whose room is kept once owners of ghosts close
use Rattle.std.proofs.Common.{◌≡◌, ◌⊎◌, ℕ, zero, suc, true, slice_index_or, slice_set, List, [], ◌∷◌, Option, None, Some, refl, sym, ap, subst, ◌∙◌, inl, inr, nat_cmp}
use Rattle.std.specs.FinSet as set
use Rattle.mlt_hash.proofs.Names.{cases_eq, is_kept, Slot, Free, Ghost, Live, Page, BucketFields, FilePages, slot_at, used_from_kept, View, KeepsNoMore, slot_after, IsOwnSlot, SlotsStood, slot_on, Change}
use Rattle.mlt_hash_form.specs.Form.{SetsOneSlot}
use Rattle.mlt_hash_access.specs.Views.{rebased, seen_with}

-- a slot of a list in which one was set is that one's new content, or as before
set_cases : (slots : List Slot) (i j : ℕ) (s : Slot) → (slice_index_or (slice_set slots i s) j Free ≡ s) ⊎ (slice_index_or (slice_set slots i s) j Free ≡ slice_index_or slots j Free)
set_cases [] i j s = inr refl
set_cases (slot ∷ slots) zero zero s = inl refl
set_cases (slot ∷ slots) zero (suc j) s = inr refl
set_cases (slot ∷ slots) (suc i) zero s = inr refl
set_cases (slot ∷ slots) (suc i) (suc j) s = set_cases slots i j s

pub slot_cases : (buckets buckets' : ℕ → BucketFields) (n i : ℕ) (s : Slot) → SetsOneSlot buckets buckets' n i s → (m j : ℕ) → (slot_at buckets' m j ≡ s) ⊎ (slot_at buckets' m j ≡ slot_at buckets m j)
slot_cases buckets buckets' n i s sets m j =
    elim (cases_eq m n) [
      | inl here ↦
          let slots : slot_at buckets' m j ≡ slice_index_or (slice_set (buckets n).slots i s) j Free = ap (λ k. slot_at buckets' k j) here ∙ ap (λ slots. slice_index_or slots j Free) sets.slots in
          elim (set_cases (buckets n).slots i j s) [ inl new ↦ inl (slots ∙ new) | inr old ↦ inr (slots ∙ old ∙ ap (λ k. slot_at buckets k j) (sym here)) ]
      | inr elsewhere ↦ inr (ap (λ (b : BucketFields). slice_index_or b.slots j Free) (sets.others m elsewhere))
    ]

-- what a change leaves in its slot is the transaction's own
pub own_after : (done : Change) (key tx : ℕ) → IsOwnSlot tx (slot_after done key tx)
own_after Change.Remove key tx = refl
own_after other key tx = tt

-- and its room is kept as long as the transaction is open
own_is_kept : (active : set.FinSet nat_cmp) (tx : ℕ) (slot : Slot) → set.contains active tx ≡ true → IsOwnSlot tx slot → is_kept active slot ≡ true
own_is_kept active tx Free is_open own = absurd own
own_is_kept active tx (Live key value) is_open own = refl
own_is_kept active tx (Ghost key value owner) is_open own = ap (set.contains active) own ∙ is_open

-- what stood on pages that were seen still did once more is seen
pub still_stood : (written : FilePages) (tx : ℕ) (old new : View) → SlotsStood written tx old → ((q : ℕ) (p : Option Page) → old.seen q ≡ Some p → new.seen q ≡ Some p) → SlotsStood written tx new
still_stood written tx old new stood more n p is i used = elim (stood n p is i used) [ inl own ↦ inl own | inr was ↦ inr (was.0, was.1, more was.0 was.1 was.2, was.3) ]

module _ (written : FilePages) (tx : ℕ) (active fewer : set.FinSet nat_cmp) (view : View) (stood : SlotsStood written tx view) (is_open : set.contains active tx ≡ true) (no_more : KeepsNoMore active fewer view) where
  kept_on : (n : ℕ) (page : Page) (i : ℕ) → written n ≡ Some page → is_kept fewer (slot_on (Some page) i) ≡ true → is_kept active (slot_on (Some page) i) ≡ true
  kept_on n page i is kept =
      elim (stood n page is i (used_from_kept fewer (slot_on (Some page) i) kept)) [
        | inl own ↦ own_is_kept active tx (slot_on (Some page) i) is_open own
        | inr was ↦ ap (is_kept active) (sym was.3) ∙ no_more was.0 was.1 was.2 i (ap (is_kept fewer) was.3 ∙ kept)
      ]

  kept_at : (n : ℕ) (p : Option Page) (i : ℕ) (w : Option Page) → written n ≡ w → seen_with w (view.seen n) ≡ Some p → is_kept fewer (slot_on p i) ≡ true → is_kept active (slot_on p i) ≡ true
  kept_at n p i None is sees kept = no_more n p sees i kept
  kept_at n p i (Some page) is sees kept =
      let same : p ≡ Some page = (let both : Some p ≡ Some (Some page) = sym sees in cc) in
      subst (λ (q : Option Page). is_kept active (slot_on q i) ≡ true) (sym same) (kept_on n page i is (subst (λ (q : Option Page). is_kept fewer (slot_on q i) ≡ true) same kept))

  -- **Where no more is kept on the pages that were seen, none is on those that were written, as long as the transaction is open.**
  pub keeps_no_more_written : KeepsNoMore active fewer (rebased written view)
  keeps_no_more_written n p sees i kept = kept_at n p i (written n) refl sees kept
