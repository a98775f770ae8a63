-- A plan: which slot of a bucket is to be set, and to what
use Rattle.std.specs.Prelude.{ℕ, ◌≡◌, ◌<◌, Bool, true, false, not, List, length, slice_index_or, slice_set}
use Rattle.std.specs.Ordering.{nat_cmp}
use Rattle.std.specs.FinSet as set
use Rattle.mlt_page.specs.{Slots.is_kept, declared.slot.Slot.Slot, declared.slot.Slot.TheVariants.Free, declared.page.Page.Page, Values.BucketFields, Pages.page_with_slot}

-- a slot of a page, and what it is to be
pub record WriteFields : Type 0 where
  pub number : ℕ
  pub at : ℕ
  pub slot : Slot

-- the slots of the bucket once it is written
abbrev pub slots_written : List Slot → WriteFields → List Slot
slots_written slots write = slice_set slots write.at write.slot

-- the page of the bucket once it is written
abbrev pub planned_page : BucketFields → WriteFields → Page
planned_page bucket write = page_with_slot bucket write.at write.slot

-- a record may be put there: nothing stands there, or a ghost whose owner is not open
abbrev pub has_room : set.FinSet nat_cmp → Slot → Bool
has_room active slot = not (is_kept active slot)

-- no slot has the property
abbrev pub IsNowhere : (Slot → Bool) → List Slot → Type 0
IsNowhere has slots = (i : ℕ) → i < length slots → has (slice_index_or slots i Free) ≡ false

-- the first slot of the bucket that has the property is to be set to s
pub record SetsFirst (number : ℕ) (bucket : BucketFields) (has : Slot → Bool) (s : Slot)
    (write : WriteFields) : Type 0 where
  pub slot : ℕ
  pub within : slot < 8
  pub was : has (slice_index_or bucket.slots slot Free) ≡ true
  pub first : (j : ℕ) → j < slot → has (slice_index_or bucket.slots j Free) ≡ false
  pub written : write ≡ record { number = number; at = slot; slot = s }
