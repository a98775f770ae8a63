-- What the slots of a bucket have of a key, and what a change for another key leaves of it
use Rattle.std.proofs.Common.{◌≡◌, ◌≢◌, ℕ, ◌<◌, Bool, false, true, List, length, ltb, Option, None, Some, refl, sym, ap, subst, ◌∙◌, inl, inr, arith, slice_index_or, slice_set, IsSome, position, option_map, nat_cmp, eqb-true, lt-ltb, ne_eqb, get_or-set_other, get_or-set_same}
use Rattle.std.{specs.List.position_or_len, proofs.lemmas.Bool.cases_lt, proofs.lemmas.List.get_or_past, proofs.lemmas.List.set_past, proofs.lemmas.List.Sums.fails_before_first, proofs.lemmas.List.Quantifiers.position-Some}
use Rattle.std.specs.FinSet as set
use Rattle.mlt_hash_pair.proofs.Names.{cases_eq, cond-true, false≢true, none-some, is_ghost_of, is_live_of, Slot, Free, Ghost, Live, BucketFields, value_in, SetsFirst, WriteFields, has_room, FitsFound, FitsSlots, IsPlan, RecordChange}
use Rattle.mlt_hash_form.specs.Form.{slot_value}
use Rattle.mlt_hash_pair.specs.Plans.{IsAbsent, IsPresent}

-- a search that finds no record has none to find,
none_there : (key : ℕ) (slots : List Slot) → position (is_live_of key) slots ≡ None → IsAbsent key slots
none_there key slots none i =
    elim (cases_lt (position_or_len (is_live_of key) slots) (length slots)) [
      | inl lt ↦ absurd (none-some _ (sym none ∙ cond-true (ltb (position_or_len (is_live_of key) slots) (length slots)) (Some (position_or_len (is_live_of key) slots)) None (lt-ltb (position_or_len (is_live_of key) slots) (length slots) lt)))
      | inr le ↦ elim (cases_lt i (length slots)) [
        | inl within ↦ fails_before_first (is_live_of key) slots i Free (omega arith)
        | inr past ↦ ap (is_live_of key) (get_or_past slots i Free past)
      ]
    ]

-- and the other way round
pub absent_place : (key : ℕ) (slots : List Slot) → IsAbsent key slots → position (is_live_of key) slots ≡ None
absent_place key slots absent = go (position (is_live_of key) slots) refl
  where
    go : (place : Option ℕ) → position (is_live_of key) slots ≡ place → place ≡ None
    go None is = refl
    go (Some i) is = absurd (false≢true (sym (absent i) ∙ (position-Some (is_live_of key) slots i Free is).1))

-- what was found of a key says whether its bucket has a record of it
found_nothing : (key : ℕ) (slots : List Slot) → None ≡ value_in key slots → IsAbsent key slots
found_nothing key slots none = go (position (is_live_of key) slots) refl
  where
    go : (place : Option ℕ) → position (is_live_of key) slots ≡ place → IsAbsent key slots
    go None is = none_there key slots is
    go (Some i) is = absurd (none-some _ (none ∙ ap (option_map (λ i. slot_value (slice_index_or slots i Free))) is))

found_record : (key : ℕ) (slots : List Slot) (found : Option ℕ) → IsSome found → found ≡ value_in key slots → IsPresent key slots
found_record key slots found some is = go (position (is_live_of key) slots) refl
  where
    go : (place : Option ℕ) → position (is_live_of key) slots ≡ place → IsPresent key slots
    go (Some i) place = (i, (position-Some (is_live_of key) slots i Free place).1)
    go None place = absurd (false≢true (subst IsSome (is ∙ ap (option_map (λ i. slot_value (slice_index_or slots i Free))) place) some))

-- **A change that fits what was found fits the bucket.**
pub fits_slots : (asked : Option RecordChange) (key : ℕ) (slots : List Slot) (found : Option ℕ) → found ≡ value_in key slots → FitsFound asked found → FitsSlots asked key slots
fits_slots None key slots found is fits = tt
fits_slots (Some (RecordChange.Insert value)) key slots found is fits = found_nothing key slots (sym fits ∙ is)
fits_slots (Some (RecordChange.Update value)) key slots found is fits = found_record key slots found fits is
fits_slots (Some RecordChange.Remove) key slots found is fits = found_record key slots found fits is

-- a slot for a key is no record of another one
room_is_no_record : (active : set.FinSet nat_cmp) (other : ℕ) (slot : Slot) → has_room active slot ≡ true → is_live_of other slot ≡ false
room_is_no_record active other Free room = refl
room_is_no_record active other (Live key value) room = absurd (false≢true room)
room_is_no_record active other (Ghost key value owner) room = refl

ghost_is_no_record : (key tx other : ℕ) (slot : Slot) → is_ghost_of key tx slot ≡ true → is_live_of other slot ≡ false
ghost_is_no_record key tx other Free is = refl
ghost_is_no_record key tx other (Live own value) is = absurd (false≢true is)
ghost_is_no_record key tx other (Ghost own value owner) is = refl

record_of_one : (key other : ℕ) (slot : Slot) → key ≢ other → is_live_of key slot ≡ true → is_live_of other slot ≡ false
record_of_one key other Free apart is = refl
record_of_one key other (Live own value) apart is = ne_eqb own other (λ same. apart (sym (eqb-true own key is) ∙ same))
record_of_one key other (Ghost own value owner) apart is = refl

-- what a change for one key writes, and what stood there, is no record of another
record Spares (other : ℕ) (q : ℕ) (bucket : BucketFields) (write : WriteFields) : Type 0 where
  pub number : write.number ≡ q
  pub within : write.at < 8
  pub was : is_live_of other (slice_index_or bucket.slots write.at Free) ≡ false
  pub is : is_live_of other write.slot ≡ false

spares_first : (other q : ℕ) (bucket : BucketFields) (has : Slot → Bool) (slot : Slot) (write : WriteFields) → ((slot : Slot) → has slot ≡ true → is_live_of other slot ≡ false) → is_live_of other slot ≡ false → SetsFirst q bucket has slot write → Spares other q bucket write
spares_first other q bucket has slot write spares none sets = record {
  number = ap (λ (w : WriteFields). w.number) sets.written;
  within = subst (λ (w : WriteFields). w.at < 8) (sym sets.written) sets.within;
  was = subst (λ (w : WriteFields). is_live_of other (slice_index_or bucket.slots w.at Free) ≡ false) (sym sets.written) (spares (slice_index_or bucket.slots sets.slot Free) sets.was);
  is = ap (λ (w : WriteFields). is_live_of other w.slot) sets.written ∙ none;
}

spares_other : (asked : RecordChange) (active : set.FinSet nat_cmp) (tx key other q : ℕ) (bucket : BucketFields) (write : WriteFields) → key ≢ other → IsPlan asked active tx key q bucket write → Spares other q bucket write
spares_other (RecordChange.Insert value) active tx key other q bucket write apart plan =
    elim plan [
      | inl revives ↦ spares_first other q bucket (is_ghost_of key tx) (Live key value) write (ghost_is_no_record key tx other) (ne_eqb key other apart) revives
      | inr puts ↦ spares_first other q bucket (has_room active) (Live key value) write (room_is_no_record active other) (ne_eqb key other apart) puts.1
    ]
spares_other (RecordChange.Update value) active tx key other q bucket write apart plan = spares_first other q bucket (is_live_of key) (Live key value) write (λ slot. record_of_one key other slot apart) (ne_eqb key other apart) plan
spares_other RecordChange.Remove active tx key other q bucket write apart plan = spares_first other q bucket (is_live_of key) (Ghost key 0 tx) write (λ slot. record_of_one key other slot apart) refl plan

same_records : (other at : ℕ) (slots : List Slot) (slot : Slot) → is_live_of other (slice_index_or slots at Free) ≡ false → is_live_of other slot ≡ false → (i : ℕ) → is_live_of other (slice_index_or (slice_set slots at slot) i Free) ≡ is_live_of other (slice_index_or slots i Free)
same_records other at slots slot was is i =
    elim (cases_lt at (length slots)) [
      | inl within ↦ elim (cases_eq i at) [
        | inl here ↦ ap (λ i. is_live_of other (slice_index_or (slice_set slots at slot) i Free)) here ∙ ap (is_live_of other) (get_or-set_same slots at slot Free within) ∙ is ∙ sym was ∙ ap (λ i. is_live_of other (slice_index_or slots i Free)) (sym here)
        | inr elsewhere ↦ ap (is_live_of other) (get_or-set_other slots at i slot Free elsewhere)
      ]
      | inr past ↦ ap (λ slots. is_live_of other (slice_index_or slots i Free)) (set_past slots at slot past)
    ]

-- **What fits the bucket of one key fits it once another key's change is in it.**
pub fits_after : (asked : Option RecordChange) (done : RecordChange) (active : set.FinSet nat_cmp) (tx key other q : ℕ) (bucket : BucketFields) (write : WriteFields) → key ≢ other → IsPlan done active tx key q bucket write
    → FitsSlots asked other bucket.slots → FitsSlots asked other (slice_set bucket.slots write.at write.slot)
fits_after asked done active tx key other q bucket write apart plan fits = go asked fits
  where
    same : (i : ℕ) → is_live_of other (slice_index_or (slice_set bucket.slots write.at write.slot) i Free) ≡ is_live_of other (slice_index_or bucket.slots i Free)
    same = let spared = spares_other done active tx key other q bucket write apart plan in same_records other write.at bucket.slots write.slot spared.was spared.is

    go : (asked : Option RecordChange) → FitsSlots asked other bucket.slots → FitsSlots asked other (slice_set bucket.slots write.at write.slot)
    go None fits = tt
    go (Some (RecordChange.Insert value)) fits = λ i. same i ∙ fits i
    go (Some (RecordChange.Update value)) fits = (fits.0, same fits.0 ∙ fits.1)
    go (Some RecordChange.Remove) fits = (fits.0, same fits.0 ∙ fits.1)

-- a plan names the page of its bucket, and one of the eight slots
pub plan_number : (asked : RecordChange) (active : set.FinSet nat_cmp) (tx key q : ℕ) (bucket : BucketFields) (write : WriteFields) → IsPlan asked active tx key q bucket write → (write.number ≡ q) × (write.at < 8)
plan_number (RecordChange.Insert value) active tx key q bucket write plan =
    elim plan [
      | inl revives ↦ of_first (is_ghost_of key tx) (Live key value) revives
      | inr puts ↦ of_first (has_room active) (Live key value) puts.1
    ]
  where
    of_first : (has : Slot → Bool) (slot : Slot) → SetsFirst q bucket has slot write → (write.number ≡ q) × (write.at < 8)
    of_first has slot sets = (ap (λ (w : WriteFields). w.number) sets.written, subst (λ (w : WriteFields). w.at < 8) (sym sets.written) sets.within)
plan_number (RecordChange.Update value) active tx key q bucket write plan = (ap (λ (w : WriteFields). w.number) plan.written, subst (λ (w : WriteFields). w.at < 8) (sym plan.written) plan.within)
plan_number RecordChange.Remove active tx key q bucket write plan = (ap (λ (w : WriteFields). w.number) plan.written, subst (λ (w : WriteFields). w.at < 8) (sym plan.written) plan.within)
