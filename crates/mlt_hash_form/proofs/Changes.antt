-- What setting one slot does to the pairs of a bucket
use Rattle.std.proofs.Common.{ℕ, ◌≡◌, ◌<◌, true, List, length, get_or, set, Option, Some, None, refl, sym, ◌∙◌, ap, inl, inr, ◌↔◌, position, nat_cmp, get_or-set_same, get_or-set_other, eq-eqb, eqb-true}
use Rattle.mlt_hash_form.{proofs.Places.nowhere, specs.Pairs.HasOnePair, specs.Pairs.IsPair, specs.Pairs.SetsPair, specs.Plans.has_room}
use Rattle.std.specs.FinSet as fin
use Rattle.std.proofs.lemmas.{List.get_or_past, Bool.both_ways, Bool.cases_lt, Bool.cases_eq}
use Rattle.mlt_page.specs.{Slots.is_ghost_of, Slots.is_live_of, declared.slot.Slot.Slot, declared.slot.Slot.TheVariants.Free, declared.slot.Slot.TheVariants.Live, declared.slot.Slot.TheVariants.Ghost}

-- a slot that passes the test has a record of the key
live_of : (key : ℕ) (s : Slot) → is_live_of key s ≡ true → (v : ℕ) × (s ≡ Live key v)
live_of key Free h = cc
live_of key (Live own v) h = let e = eqb-true own key h in (v, ap (λ k. Live k v) e)
live_of key (Ghost own v owner) h = cc

-- a slot that a record may be put into is no record, nor is a ghost
room_is_dead : (active : fin.FinSet nat_cmp) (s : Slot) → has_room active s ≡ true → (k v : ℕ) → s ≡ Live k v → ⊥
room_is_dead active Free h k v e = cc
room_is_dead active (Live own w) h k v e = cc
room_is_dead active (Ghost own w owner) h k v e = cc

ghost_is_dead : (key owner : ℕ) (s : Slot) → is_ghost_of key owner s ≡ true → (k v : ℕ) → s ≡ Live k v → ⊥
ghost_is_dead key owner Free h k v e = cc
ghost_is_dead key owner (Live own w) h k v e = cc
ghost_is_dead key owner (Ghost own w left) h k v e = cc

-- Slot i is set to s, which shows the key's new value; no other slot has the key's record, and slot i none of
-- another key.
module _ (slots : List Slot) (i : ℕ) (s : Slot) (key : ℕ) (value : Option ℕ) (within : i < length slots)
    (alone : (j w : ℕ) → get_or slots j Free ≡ Live key w → j ≡ i)
    (own : (k w : ℕ) → get_or slots i Free ≡ Live k w → k ≡ key)
    (shows : (k v : ℕ) → (s ≡ Live k v) ↔ ((k ≡ key) × (value ≡ Some v))) where
  here' : (v : ℕ) → IsPair (set slots i s) key v ↔ (value ≡ Some v)
  here' v = (
    (λ (h : IsPair (set slots i s) key v). elim (cases_eq h.0 i) [
      | inl e ↦ ((shows key v).0 (sym (get_or-set_same slots i s Free within) ∙ ap (λ j. get_or (set slots i s) j Free) (sym e) ∙ h.1)).1
      | inr ne ↦ absurd (ne (alone h.0 v (sym (get_or-set_other slots i h.0 s Free ne) ∙ h.1)))
    ]),
    (λ e. (i, get_or-set_same slots i s Free within ∙ (shows key v).1 (refl, e))),
  )

  others' : (k v : ℕ) → (k ≡ key → ⊥) → IsPair (set slots i s) k v ↔ IsPair slots k v
  others' k v other = (
    (λ (h : IsPair (set slots i s) k v). elim (cases_eq h.0 i) [
      | inl e ↦ absurd (other ((shows k v).0 (sym (get_or-set_same slots i s Free within) ∙ ap (λ j. get_or (set slots i s) j Free) (sym e) ∙ h.1)).0)
      | inr ne ↦ (h.0, sym (get_or-set_other slots i h.0 s Free ne) ∙ h.1)
    ]),
    (λ (h : IsPair slots k v). elim (cases_eq h.0 i) [
      | inl e ↦ absurd (other (own k v (ap (λ j. get_or slots j Free) (sym e) ∙ h.1)))
      | inr ne ↦ (h.0, get_or-set_other slots i h.0 s Free ne ∙ h.1)
    ]),
  )

  sets_pair : SetsPair slots (set slots i s) key value
  sets_pair = record { here = here'; others = others' }

-- a search that finds no record of the key: it has none
no_pair : (slots : List Slot) (key : ℕ) → position (is_live_of key) slots ≡ None → (i w : ℕ) → get_or slots i Free ≡ Live key w → ⊥
no_pair slots key none i w e =
    elim (cases_lt i (length slots)) [
      | inl lt ↦ both_ways _ (nowhere (is_live_of key) slots none i lt) (ap (is_live_of key) e ∙ eq-eqb key key refl)
      | inr le ↦ let past = get_or_past slots i Free le in cc
    ]

live_shows : (key value k v : ℕ) → (Live key value ≡ Live k v) ↔ ((k ≡ key) × (Some value ≡ Some v))
live_shows key value k v = ((λ e. (cc, cc)), (λ h. cc))

ghost_shows : (key owner k v : ℕ) → (Ghost key 0 owner ≡ Live k v) ↔ ((k ≡ key) × (None ≡ Some v))
ghost_shows key owner k v = ((λ e. cc), (λ h. cc))

own_key : (slots : List Slot) (key i : ℕ) → is_live_of key (get_or slots i Free) ≡ true → (k w : ℕ) → get_or slots i Free ≡ Live k w → k ≡ key
own_key slots key i live k w e =
    let here = live_of key (get_or slots i Free) live in
    let same : Live k w ≡ Live key here.0 = sym e ∙ here.1 in
    cc

one_place : (slots : List Slot) (key i : ℕ) → HasOnePair slots key → is_live_of key (get_or slots i Free) ≡ true → (j w : ℕ) → get_or slots j Free ≡ Live key w → j ≡ i
one_place slots key i one live j w e =
    let here = live_of key (get_or slots i Free) live in
    one j i w here.0 e here.1

pub put_sets_pair : (active : fin.FinSet nat_cmp) (slots : List Slot) (key value i : ℕ) → position (is_live_of key) slots ≡ None → i < length slots → has_room active (get_or slots i Free) ≡ true → SetsPair slots (set slots i (Live key value)) key (Some value)
put_sets_pair active slots key value i none within room =
    sets_pair slots i (Live key value) key (Some value) within (λ j w e. absurd (no_pair slots key none j w e)) (λ k w e. absurd (room_is_dead active _ room k w e)) (live_shows key value)

pub revive_sets_pair : (slots : List Slot) (key value owner i : ℕ) → position (is_live_of key) slots ≡ None → i < length slots → is_ghost_of key owner (get_or slots i Free) ≡ true → SetsPair slots (set slots i (Live key value)) key (Some value)
revive_sets_pair slots key value owner i none within ghost =
    sets_pair slots i (Live key value) key (Some value) within (λ j w e. absurd (no_pair slots key none j w e)) (λ k w e. absurd (ghost_is_dead key owner _ ghost k w e)) (live_shows key value)

pub update_sets_pair : (slots : List Slot) (key value i : ℕ) → i < length slots → is_live_of key (get_or slots i Free) ≡ true → HasOnePair slots key → SetsPair slots (set slots i (Live key value)) key (Some value)
update_sets_pair slots key value i within live one =
    sets_pair slots i (Live key value) key (Some value) within (one_place slots key i one live) (own_key slots key i live) (live_shows key value)

pub remove_sets_pair : (slots : List Slot) (key owner i : ℕ) → i < length slots → is_live_of key (get_or slots i Free) ≡ true → HasOnePair slots key → SetsPair slots (set slots i (Ghost key 0 owner)) key None
remove_sets_pair slots key owner i within live one =
    sets_pair slots i (Ghost key 0 owner) key None within (one_place slots key i one live) (own_key slots key i live) (ghost_shows key owner)
