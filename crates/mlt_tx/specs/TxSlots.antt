-- The table that slots make.
use Rattle.std.specs.Prelude.{◌≡◌, ℕ, ◌==◌, ◌+◌, ◌<◌, Bool, true, false, not, ◌&&◌, cond, Option, None, Some, List, [], ◌∷◌, length, slice_index_or}
use Rattle.mlt_object_kinds.specs.declared.operation.{ObjOp.ObjOp, ObjReply.ObjReply}
use Rattle.mlt_page.specs.declared.page.Page.{Page}
use Rattle.mlt_page_subtx.specs.Images.{image_of}
use Rattle.std.specs.FinMap as map
use Rattle.mlt_tx.specs.{declared.tx_slot.TxSlot.TxSlot, Tables.HasDoneNothing, Tables.Table}

-- nobody lies there
abbrev pub is_free : TxSlot → Bool
is_free slot = slot.is_free

-- the transaction of this number lies there
abbrev pub is_slot_of : ℕ → TxSlot → Bool
is_slot_of tx slot = slot.tx == tx && not (is_free slot)

-- who lies there, by the first slot of each number
abbrev pub table_of : List TxSlot → Table
table_of [] = map.empty
table_of (slot ∷ slots) =
    cond (is_free slot) (table_of slots) (map.insert (table_of slots) slot.tx slot.transaction.value)

-- how many slots are taken
abbrev pub slots_taken : List TxSlot → ℕ
slots_taken [] = 0
slots_taken (slot ∷ slots) = cond (is_free slot) 0 1 + slots_taken slots

-- what stands of who lies there
abbrev pub entries_in : TxSlot → List (ObjOp × ObjReply)
entries_in slot = cond (is_free slot) [] slot.transaction.value.undo.entries

-- each number has one slot at most: they are as many
abbrev pub HasOneEach : List TxSlot → Type 0
HasOneEach slots = map.len (table_of slots) ≡ slots_taken slots

-- and so many are taken
pub record AreTxSlots (slots : List TxSlot) (taken : ℕ) : Type 0 where
  pub one_each : HasOneEach slots
  pub counted : taken ≡ slots_taken slots

-- the slot at this place is free
pub record IsFreeAt (slots : List TxSlot) (place : ℕ) : Type 0 where
  pub within : place < length slots
  pub free : (d : TxSlot) → is_free (slice_index_or slots place d) ≡ true

-- a transaction of this number, which has done nothing, lies there
pub record BeginsInSlot (tx : ℕ) (slot : TxSlot) : Type 0 where
  pub tx_is : slot.tx ≡ tx
  pub used : is_free slot ≡ false
  pub nothing : HasDoneNothing tx slot.transaction.value

-- somebody in a slot keeps this first image of the page
pub record KeepsInSlot (slots : List TxSlot) (page : ℕ) (first : Option Page) : Type 0 where
  pub place : ℕ
  pub slot : TxSlot
  pub within : place < length slots
  pub there : slot ≡ slice_index_or slots place slot
  pub used : is_free slot ≡ false
  pub keeps : image_of slot.transaction.value.subtx.images page ≡ Some first

-- nobody in the first slots keeps one
abbrev pub LackImage : List TxSlot → ℕ → ℕ → Type 0
LackImage slots page n =
    (k : ℕ) (d : TxSlot) → k < n → is_free (slice_index_or slots k d) ≡ false
    → image_of (slice_index_or slots k d).transaction.value.subtx.images page ≡ None
