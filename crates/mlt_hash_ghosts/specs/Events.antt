-- What a manager does of which ghosts have to be kept: changes of one slot
use Rattle.std.specs.Prelude.{ℕ, ◌≡◌, false, Option, None, position}
use Rattle.std.specs.Ordering.{nat_cmp}
use Rattle.std.specs.FinSet as set
use Rattle.mlt_page.specs.{Slots.is_ghost_of, Slots.is_kept, declared.slot.Slot.Slot}
use Rattle.mlt_hash_form.specs.{Form.value_in, File.FilePages}
use Rattle.mlt_hash_form.specs.Changes.{ChangesRecord, IsAtHome, Spot, slot_of, slot_change}
use Rattle.mlt_hash_ghosts.specs.{Ledgers.IsOpenIn, Ledgers.Ledger, Ledgers.NoOtherLast, Operations.Added, Operations.Removed}

-- In the bucket that the key leads to, one slot becomes `made`, and with it the key has this value, or none. The
-- clean pages are then `pages`.
pub record ChangesSlot (ledger : Ledger) (pages : FilePages) (spot : Spot) (key : ℕ)
    (value : Option ℕ) (made : Slot) : Type 0 where
  pub at_home : IsAtHome ledger.bits ledger.pages ledger.root key spot
  pub changes : ChangesRecord ledger.bits ledger.pages pages ledger.root
      (slot_change key value spot.number spot.at made)

-- the transaction is open, its abort has not begun, and no other open one has added the key
pub record MayRemoveKey (ledger : Ledger) (owner key : ℕ) : Type 0 where
  pub is_open : IsOpenIn ledger owner
  pub forward : ledger.undoing owner ≡ false
  pub unopposed : NoOtherLast ledger owner key Added

-- the transaction is open, and no other open one has removed the key
pub record MayAddKey (ledger : Ledger) (owner key : ℕ) : Type 0 where
  pub is_open : IsOpenIn ledger owner
  pub unopposed : NoOtherLast ledger owner key Removed

-- the slot is not kept, and its bucket has no record of the key and no ghost that the transaction left of it
pub record IsRoomFor (active : set.FinSet nat_cmp) (spot : Spot) (owner key : ℕ) : Type 0 where
  pub absent : value_in key spot.bucket.slots ≡ None
  pub ghostless : position (is_ghost_of key owner) spot.bucket.slots ≡ None
  pub free : is_kept active (slot_of spot) ≡ false
