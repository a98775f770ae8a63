-- What is copied of a manager at one moment, to make its base of later
use Rattle.std.specs.Prelude.{ℕ, ◌≡◌, ◌<◌, ◌⊎◌, List, None, Contains}
use Rattle.mlt_types.specs.{declared.cell.Cell.Cell, Cells.IsInRange}
use Rattle.mlt_page.specs.{Values.BucketFields, declared.slot.Slot.Slot}
use Rattle.mlt_object_kinds.specs.{Bases.Base, Bases.TranscriptLeads, Bases.state_at, declared.operation.ObjOp.ObjOp, declared.operation.ObjReply.ObjReply}
use Rattle.mlt_object_base.specs.Records.{state_of_record}
use Rattle.mlt_manager_invariant.specs.Copies.{AreSlotsOf, HasLive}
use Rattle.mlt_manager.specs.{Bases.HasBase, CleanBuckets.IsCleanBucket, Managers.ManagerFields, Promises.IsCommittedBaseOf}

-- what contracts see of an image
pub record ImageFields : Type 0 where
  -- the slots of the buckets, what stands of the open transactions, one after another, and how many have committed
  pub slots : List Slot
  pub standing : List (ObjOp × ObjReply)
  pub commits : ℕ

-- the slots are of some base
abbrev pub AreOfSomeBase : List Slot → Type 0
AreOfSomeBase slots = (base : Base) × AreSlotsOf slots base

-- the slots are of this base, and whatever it holds has one
pub record ShowBase (slots : List Slot) (base : Base) : Type 0 where
  pub of_base : AreSlotsOf slots base
  pub all : (cell : Cell)
      → (state_at base cell ≡ state_of_record cell None)
      ⊎ (IsInRange cell × ((value : ℕ) × HasLive slots cell value))

-- it is an image of this base: with what stands taken back, it is left of the base that the slots show
pub record IsImageOf (image : ImageFields) (base : Base) : Type 0 where
  pub state : Base
  pub shown : ShowBase image.slots state
  pub leads : TranscriptLeads base image.standing state

-- it is an image of the base of a manager's committed transactions, of which there are so many
pub record IsImageAt {P : Type 0} (m : ManagerFields P) (image : ImageFields) : Type 0 where
  pub base : Base
  pub committed : IsCommittedBaseOf m base
  pub of_base : IsImageOf image base
  pub commits : image.commits ≡ m.commits

-- the list has each slot of the buckets at the first places, and no slot that isn't of a bucket
pub record HasSlotsBelow {P : Type 0} (m : ManagerFields P) (slots : List Slot) (places : ℕ)
    : Type 0 where
  pub all : (place : ℕ) (bucket : BucketFields) (slot : Slot)
      → place < places → IsCleanBucket m place bucket → Contains bucket.slots slot
      → Contains slots slot
  pub only : (slot : Slot) → Contains slots slot
      → (place : ℕ) × (bucket : BucketFields) × IsCleanBucket m place bucket
      × Contains bucket.slots slot

-- the slots show the base to which the history leads
abbrev pub ShowState : {P : Type 0} → ManagerFields P → List Slot → Type 0
ShowState m slots = (state : Base) × HasBase m state × ShowBase slots state
