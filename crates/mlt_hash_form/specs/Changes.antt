-- A change of one record, and a split, as what they leave
use Rattle.std.specs.Prelude.{ℕ, ◌≡◌, ◌<◌, ◌^◌, ◌⊎◌, true, false, Option, Some, None, replicate, slice_index_or, ◌↔◌}
use Rattle.std.specs.Ordering.{nat_cmp}
use Rattle.std.specs.FinSet as set
use Rattle.mlt_page.specs.{Pages.page_with_slot, Slots.is_kept, declared.slot.Slot.Slot, declared.slot.Slot.TheVariants.Free, Values.BucketFields, declared.page.Page.Page}
use Rattle.mlt_hash_form.specs.Form.{HasSlot, SetsOneSlot, is_used, slot_at}
use Rattle.mlt_hash_form.specs.File.{FilePages, GivesPseudokeys, HasForm, Writes, buckets_of, lead_of, look_up}

-- a file of the form, and the bucket that a key leads to, on page n
pub record IsHome (bits : ℕ → ℕ) (pages : FilePages) (root key n : ℕ) (bucket : BucketFields)
    : Type 0 where
  pub bounded : GivesPseudokeys bits
  pub form : HasForm bits pages root
  pub leads : lead_of pages root (bits key) ≡ n
  pub found : pages n ≡ Some (Page.Bucket bucket)

-- one slot of a file: the number of its page, its place there, and the bucket
pub record Spot : Type 0 where
  pub number : ℕ
  pub at : ℕ
  pub bucket : BucketFields

-- what stands at a spot
abbrev pub slot_of : Spot → Slot
slot_of spot = slice_index_or spot.bucket.slots spot.at Free

-- a file of the form, and a slot of the bucket that a key leads to
pub record IsAtHome (bits : ℕ → ℕ) (pages : FilePages) (root key : ℕ) (spot : Spot) : Type 0 where
  pub home : IsHome bits pages root key spot.number spot.bucket
  pub within : spot.at < 8

-- s is written at the spot, and no other slot or page changes
abbrev pub WritesSpot : FilePages → FilePages → Spot → Slot → Type 0
WritesSpot pages pages' spot s =
    Writes pages pages' spot.number (page_with_slot spot.bucket spot.at s)

-- One slot that is set: the key whose record it changes, and the value that the key has then, or none; the number of
-- the slot's page, its place there, and what it is then
pub record SlotChange : Type 0 where
  pub key : ℕ
  pub value : Option ℕ
  pub number : ℕ
  pub at : ℕ
  pub after : Slot

abbrev pub slot_change : ℕ → Option ℕ → ℕ → ℕ → Slot → SlotChange
slot_change key value number at after =
    record { key = key; value = value; number = number; at = at; after = after }

-- The slot is set, and with it the key has its value, or none. The form, the value of each other
-- key and all other slots stay.
pub record ChangesRecord (bits : ℕ → ℕ) (pages pages' : FilePages) (root : ℕ) (change : SlotChange)
    : Type 0 where
  pub form : HasForm bits pages' root
  pub here : look_up bits pages' root change.key ≡ change.value
  pub others : (k : ℕ) → (k ≡ change.key → ⊥)
      → look_up bits pages' root k ≡ look_up bits pages root k
  pub sets : SetsOneSlot (buckets_of pages) (buckets_of pages') change.number change.at change.after
  pub gained : HasSlot (buckets_of pages') change.after
  pub kept : (t : Slot) → (t ≡ change.after → ⊥)
      → (t ≡ slot_at (buckets_of pages) change.number change.at → ⊥)
      → HasSlot (buckets_of pages') t ↔ HasSlot (buckets_of pages) t

-- A file, the pseudokey x, the bucket page n that x leads to, and a page number that is not there: what a split
-- of that bucket begins with.
pub record MaySplit (bits : ℕ → ℕ) (pages : FilePages) (root x n new : ℕ) : Type 0 where
  pub bounded : GivesPseudokeys bits
  pub form : HasForm bits pages root
  pub pseudokey : x < 2 ^ 64
  pub leads : lead_of pages root x ≡ n
  pub fresh : pages new ≡ None

-- What a split of the bucket on page n leaves, with page new made: the form, each record and each ghost of an
-- open owner. What is lost stood in the bucket and was not kept, and what is there stood before at the same place
-- of the same page, or of the bucket.
pub record IsSplit (bits : ℕ → ℕ) (active : set.FinSet nat_cmp) (pages pages' : FilePages)
    (root n new : ℕ) : Type 0 where
  pub form : HasForm bits pages' root
  pub values : (key : ℕ) → look_up bits pages' root key ≡ look_up bits pages root key
  pub kept : (t : Slot) → is_kept active t ≡ true
      → HasSlot (buckets_of pages') t ↔ HasSlot (buckets_of pages) t
  pub lost : (t : Slot) → is_used t ≡ true → HasSlot (buckets_of pages) t
      → HasSlot (buckets_of pages') t
      ⊎ ((is_kept active t ≡ false) × (i : ℕ) × (slot_at (buckets_of pages) n i ≡ t))
  pub before : (m i : ℕ) → is_used (slot_at (buckets_of pages') m i) ≡ true
      → (o : ℕ) × (slot_at (buckets_of pages) o i ≡ slot_at (buckets_of pages') m i)
      × ((o ≡ m) ⊎ (o ≡ n))
  -- both halves have no ghost of a closed owner
  pub dropped : (m i : ℕ) → (m ≡ n) ⊎ (m ≡ new) → is_used (slot_at (buckets_of pages') m i) ≡ true
      → is_kept active (slot_at (buckets_of pages') m i) ≡ true

-- a file as it is opened: its header names the directory page d, whose entries all name page n, an empty bucket
pub record IsOpening (pages : FilePages) (root d n : ℕ) : Type 0 where
  pub head : pages root ≡ Some (Page.Head (record { depth = 0; dirs = replicate 256 d }))
  pub listed : pages d ≡ Some (Page.Dir (replicate 256 n))
  pub bucket : pages n ≡ Some (Page.Bucket (record { depth = 0; slots = replicate 8 Free }))
  pub others : (m : ℕ) → (m ≡ root → ⊥) → (m ≡ d → ⊥) → (m ≡ n → ⊥) → pages m ≡ None
