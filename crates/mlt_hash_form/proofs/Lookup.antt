-- The look-up finds exactly the live pair. Other crates cite this module.
use Rattle.std.proofs.Common.{ℕ, ◌≡◌, ◌<◌, ◌≤◌, true, ltb, List, length, get_or, Some, None, refl, sym, ◌∙◌, ap, arith, inl, inr, ◌↔◌, option_map, eqb-true, eq-eqb, lt-ltb, le-ltb}
use Rattle.std.{specs.List.position_or_len, proofs.lemmas.List.Sums.fails_before_first, proofs.lemmas.List.Sums.passes_at_first}
use Rattle.mlt_hash_form.proofs.Names.{get_or_past, both_ways, cases_lt, cond-true, cond-false, same_Some, none-some, is_live_of, Slot, Free, Live, Ghost, BucketFields, slot_at, HasSlot, IsSpread, is_used, slot_value, value_in}
use Rattle.mlt_hash_form.specs.Form.{value_by_lead}

-- a slot that passes the test is the live one of the key
pub live_is : (k : ℕ) (s : Slot) → is_live_of k s ≡ true → s ≡ Live k (slot_value s)
live_is k Free h = cc
live_is k (Live j v) h = let e = eqb-true j k h in cc
live_is k (Ghost j v tx) h = cc

pub live_passes : (k v : ℕ) (s : Slot) → s ≡ Live k v → is_live_of k s ≡ true
live_passes k v s e = rw e (eq-eqb k k refl)

pub within_from_live : (slots : List Slot) (i k v : ℕ) → get_or slots i Free ≡ Live k v → i < length slots
within_from_live slots i k v e =
    elim (cases_lt i (length slots)) [ inl h ↦ h | inr h ↦ let past = get_or_past slots i Free h in cc ]

-- where the test first passes, and where it never does
value_at_first : (k : ℕ) (slots : List Slot) → position_or_len (is_live_of k) slots < length slots → value_in k slots ≡ Some (slot_value (get_or slots (position_or_len (is_live_of k) slots) Free))
value_at_first k slots lt =
    let n = position_or_len (is_live_of k) slots in
    ap (option_map (λ i. slot_value (get_or slots i Free))) (cond-true (ltb n (length slots)) (Some n) None (lt-ltb n (length slots) lt))

value_past : (k : ℕ) (slots : List Slot) → length slots ≤ position_or_len (is_live_of k) slots → value_in k slots ≡ None
value_past k slots le =
    let n = position_or_len (is_live_of k) slots in
    ap (option_map (λ i. slot_value (get_or slots i Free))) (cond-false (ltb n (length slots)) (Some n) None (le-ltb n (length slots) le))

-- a found value stands in a live slot
pub live_from_value : (k v : ℕ) (slots : List Slot) → value_in k slots ≡ Some v → (i : ℕ) × (get_or slots i Free ≡ Live k v)
live_from_value k v slots h =
    let n = position_or_len (is_live_of k) slots in
    elim (cases_lt n (length slots)) [
      | inl lt ↦
          let is = live_is k (get_or slots n Free) (passes_at_first (is_live_of k) slots Free lt) in
          let e = same_Some _ _ (sym (value_at_first k slots lt) ∙ h) in
          (n, is ∙ ap (Live k) e)
      | inr le ↦ absurd (none-some v (sym (value_past k slots le) ∙ h))
    ]

-- a live slot's value is found, if no other slot has the key
pub value_from_live : (k v i : ℕ) (slots : List Slot) → ((j w : ℕ) → get_or slots j Free ≡ Live k w → i ≡ j) → get_or slots i Free ≡ Live k v → value_in k slots ≡ Some v
value_from_live k v i slots once e =
    let n = position_or_len (is_live_of k) slots in
    let within = within_from_live slots i k v e in
    elim (cases_lt n (length slots)) [
      | inl lt ↦
          let is = live_is k (get_or slots n Free) (passes_at_first (is_live_of k) slots Free lt) in
          let same = once n _ is in
          value_at_first k slots lt ∙ ap (λ s. Some (slot_value s)) (ap (λ j. get_or slots j Free) (sym same) ∙ e)
      | inr le ↦ absurd (both_ways _ (fails_before_first (is_live_of k) slots i Free (omega arith)) (live_passes k v _ e))
    ]

used_live : (k v : ℕ) (s : Slot) → s ≡ Live k v → is_used s ≡ true
used_live k v s e = rw e refl

-- the records are just what the look-up finds
pub found : (bits : ℕ → ℕ) (g : ℕ) (lead : ℕ → ℕ) (buckets : ℕ → BucketFields) → IsSpread bits g lead buckets → (k v : ℕ) → HasSlot buckets (Live k v) ↔ (value_by_lead bits lead buckets k ≡ Some v)
found bits g lead buckets form k v = (
  (λ (h : HasSlot buckets (Live k v)).
      let n = h.0 in
      let i = h.1 in
      let here : slot_at buckets n i ≡ Live k v = h.2 in
      let home : lead (bits k) ≡ n = rw here at (form.home n i (used_live k v _ here)) in
      let once : (j w : ℕ) → get_or (buckets n).slots j Free ≡ Live k w → i ≡ j = λ j w e. form.once n i j k v w here e in
      rw home (value_from_live k v i (buckets n).slots once here)),
  (λ (h : value_by_lead bits lead buckets k ≡ Some v).
      let at = live_from_value k v (buckets (lead (bits k))).slots h in
      (lead (bits k), at.0, at.1)),
)
