-- The look-up and the change of one slot, in pages. Other crates cite this module.
use Rattle.std.proofs.Common.{ℕ, List, ◌≡◌, ◌<◌, ◌≤◌, ◌-◌, ◌/◌, ◌%◌, ◌^◌, length, set, slice_index, Option, Some, None, refl, sym, ◌∙◌, ap, arith, ◌↔◌}
use Rattle.mlt_hash_form.proofs.Names.{first_bits, key_of, Slot, Live, BucketFields, HeadFields, Page, header_of, entries_of, bucket_of, lead_of, buckets_of, HasForm, Writes, IsPath, look_up, slot_at, HasSlot, SetsOneSlot, MaySet, value_in}
use Rattle.mlt_hash_form.proofs.{Bits.first_bits_below, Lookup.found, Same.form_same, FillEnds.page_listed}
use Rattle.mlt_hash_form.proofs.RecordChange.{slot_here, form_after, others_hold, record_other, record_here}

-- the kind of a page, told by what can be read of it
pub dir_from_entries : (p : Option Page) → length (entries_of p) ≡ 256 → (d : List ℕ) × (p ≡ Some (Page.Dir d))
dir_from_entries (Some (Page.Dir d)) h = (d, refl)
dir_from_entries other h = absurd (omega arith)

pub data_from_slots : (p : Option Page) → length (bucket_of p).slots ≡ 8 → (b : BucketFields) × (p ≡ Some (Page.Bucket b))
data_from_slots (Some (Page.Bucket b)) h = (b, refl)
data_from_slots other h = absurd (omega arith)

-- what was read leads where the key leads, and the bucket is the key's
pub led_at : (pages : ℕ → Option Page) (root x : ℕ) (h : HeadFields) (d : List ℕ) (b : ℕ) (bucket : BucketFields) → IsPath pages root x h d b bucket → (lead_of pages root x ≡ b) × (buckets_of pages b ≡ bucket)
led_at pages root x h d b bucket led =
    (rw led.head (rw led.listed led.at), rw led.found refl)

-- a walk finds exactly the records
pub found_by_walk : (bits : ℕ → ℕ) (pages : ℕ → Option Page) (root : ℕ) (h : HeadFields) (d : List ℕ) (b : ℕ) (bucket : BucketFields) (k v : ℕ) → HasForm bits pages root → IsPath pages root (bits k) h d b bucket → HasSlot (buckets_of pages) (Live k v) ↔ (value_in k bucket.slots ≡ Some v)
found_by_walk bits pages root h d b bucket k v file led =
    let f = found bits _ (lead_of pages root) (buckets_of pages) file.form k v in
    let at = led_at pages root (bits k) h d b bucket led in
    let e : look_up bits pages root k ≡ value_in k bucket.slots = rw (at.0, at.1) refl in
    (λ (x : HasSlot (buckets_of pages) (Live k v)). sym e ∙ f.0 x, λ (x : value_in k bucket.slots ≡ Some v). f.1 (e ∙ x))

-- one value where two look-ups say the same
pub same_option : (o p : Option ℕ) → ((v : ℕ) → o ≡ Some v → p ≡ Some v) → ((v : ℕ) → p ≡ Some v → o ≡ Some v) → o ≡ p
same_option None None f g = refl
same_option (Some x) p f g = sym (f x refl)
same_option None (Some y) f g = g y refl

module _ (bits : ℕ → ℕ) (pages pages' : ℕ → Option Page) (root b i : ℕ) (s : Slot) (was now : BucketFields) (bounded : (k : ℕ) → bits k < 2 ^ 64) (file : HasForm bits pages root) (old : pages b ≡ Some (Page.Bucket was)) (writes : Writes pages pages' b (Page.Bucket now)) (depth : now.depth ≡ was.depth) (slots : now.slots ≡ set was.slots i s) (fits : MaySet bits (lead_of pages root) (buckets_of pages) b i s) where
  not_root : root ≡ b → ⊥
  not_root e =
      let at : pages b ≡ Some (Page.Head (header_of (pages root))) = ap pages (sym e) ∙ file.head in
      let q : Some (Page.Bucket was) ≡ Some (Page.Head (header_of (pages root))) = sym old ∙ at in
      cc

  root_same : pages' root ≡ pages root
  root_same = writes.others root not_root

  not_dir : (q : ℕ) → q < 2 ^ ((header_of (pages root)).depth - 8) → slice_index (header_of (pages root)).dirs q ≡ b → ⊥
  not_dir q h e =
      let full = rw (e, old) at (file.listed.full q h) in
      absurd (omega (arith, full))

  lead_same : (x : ℕ) → x < 2 ^ 64 → lead_of pages' root x ≡ lead_of pages root x
  lead_same x h =
      let g = (header_of (pages root)).depth in
      let q = first_bits g x / 256 in
      let top = file.listed.small in
      let in_list = page_listed g (first_bits g x) (first_bits_below g x (omega arith) h) in
      rw root_same (ap (λ p. slice_index (entries_of p) (first_bits g x % 256)) (writes.others _ (not_dir q in_list)))

  pub sets : SetsOneSlot (buckets_of pages) (buckets_of pages') b i s
  sets = record {
    depth = rw (writes.here, old) depth;
    slots = rw (writes.here, old) slots;
    others = λ m ne. ap bucket_of (writes.others m ne);
  }

  pub set_here : HasSlot (buckets_of pages') s
  set_here = (b, i, slot_here bits _ (lead_of pages root) (buckets_of pages) (buckets_of pages') b i s file.form sets fits)

  same_depth : (header_of (pages root)).depth ≤ (header_of (pages' root)).depth
  same_depth = let e = ap (λ p. (header_of p).depth) root_same in omega (arith, e)

  pub file_change : HasForm bits pages' root
  file_change = record {
    head = rw root_same file.head;
    listed = rw root_same (record {
      small = file.listed.small;
      full = λ q h. ap (λ p. length (entries_of p)) (writes.others _ (not_dir q h)) ∙ file.listed.full q h;
      once = file.listed.once;
    });
    form = form_same bits _ (header_of (pages' root)).depth (lead_of pages root) (lead_of pages' root) (buckets_of pages') bounded same_depth lead_same (form_after bits _ (lead_of pages root) (buckets_of pages) (buckets_of pages') b i s file.form sets fits);
  }

  -- no other slot of the file changes
  pub file_change_holds : (t : Slot) → (t ≡ s → ⊥) → (slot_at (buckets_of pages) b i ≡ t → ⊥) → HasSlot (buckets_of pages') t ↔ HasSlot (buckets_of pages) t
  file_change_holds = others_hold bits _ (lead_of pages root) (buckets_of pages) (buckets_of pages') b i s file.form sets fits

  -- the look-up of another key stays, and that of this key is what the slot says
  pub value_other : (k : ℕ) → (k ≡ key_of s → ⊥) → look_up bits pages' root k ≡ look_up bits pages root k
  value_other k ne =
      let now_found = λ (v : ℕ). found bits _ (lead_of pages' root) (buckets_of pages') file_change.form k v in
      let was_found = λ (v : ℕ). found bits _ (lead_of pages root) (buckets_of pages) file.form k v in
      let kept = λ (v : ℕ). record_other bits _ (lead_of pages root) (buckets_of pages) (buckets_of pages') b i s file.form sets fits k v ne in
      same_option _ _ (λ v e. (was_found v).0 ((kept v).0 ((now_found v).1 e))) (λ v e. (now_found v).0 ((kept v).1 ((was_found v).1 e)))

  pub value_here : (v : ℕ) → (look_up bits pages' root (key_of s) ≡ Some v) ↔ (s ≡ Live (key_of s) v)
  value_here v =
      let now_found = found bits _ (lead_of pages' root) (buckets_of pages') file_change.form (key_of s) v in
      let here = record_here bits _ (lead_of pages root) (buckets_of pages) (buckets_of pages') b i s file.form sets fits v in
      (λ (e : look_up bits pages' root (key_of s) ≡ Some v). here.0 (now_found.1 e), λ (e : s ≡ Live (key_of s) v). now_found.0 (here.1 e))
