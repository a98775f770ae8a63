-- What a contract sees of a header and of a bucket: their fields. Of a page of the directory it sees the list of
-- its entries.
use Rattle.std.specs.Prelude.{ℕ, List, slice_set}
use Rattle.mlt_page.specs.declared.slot.Slot.{Slot}

-- the depth of the directory, and the numbers of its pages
pub record HeadFields : Type 0 where
  pub depth : ℕ
  pub dirs : List ℕ

-- how many bits its pseudokeys agree in, and the slots
pub record BucketFields : Type 0 where
  pub depth : ℕ
  pub slots : List Slot

-- the bucket with slot i set to s
abbrev pub with_slot : BucketFields → ℕ → Slot → BucketFields
with_slot bucket i s = record bucket { slots = slice_set bucket.slots i s }
