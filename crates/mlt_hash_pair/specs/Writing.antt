-- What the parts of a change tell: in one bucket, and in the later one of two
use Rattle.std.specs.Prelude.{ℕ, ◌≡◌, true, Option, Some}
use Rattle.std.specs.Ordering.{nat_cmp}
use Rattle.std.specs.FinSet as set
use Rattle.mlt_page.specs.Values.{BucketFields}
use Rattle.mlt_page_locks.specs.LockTables.{can_write}
use Rattle.mlt_hash_access.specs.{LocalStates.LocalState, PageSteps.WritesHeldSlot, Views.ReadsHeldBucket, Views.View, Views.WritesSlot, Views.view_of}
use Rattle.mlt_hash_pair.specs.{Changes.IsFull, Changes.MakesAsked, Changes.Task, Pairs.PairFields, Plans.FitsSlots, Plans.IsPlanned, declared.asked.RecordChange.RecordChange, declared.answer.ChangeAnswer.ChangeAnswer, declared.answer.Side.Side, declared.plan.SlotPlan.SlotPlan}

-- page q reads as a bucket that what is asked fits
abbrev pub MayPlan : Option RecordChange → ℕ → ℕ → View → Type 0
MayPlan asked key q view =
    (bucket : BucketFields) × ReadsHeldBucket view q bucket × FitsSlots asked key bucket.slots

-- what is planned there
abbrev pub HasPlan : SlotPlan → Option RecordChange → set.FinSet nat_cmp → ℕ → ℕ → ℕ → View → Type 0
HasPlan plan asked active tx key q view =
    (bucket : BucketFields) × ReadsHeldBucket view q bucket
    × IsPlanned plan asked active tx key q bucket

-- both changes in one bucket, the left one first
abbrev pub TellsOfOne : Task → LocalState → LocalState → ChangeAnswer → Type 0
TellsOfOne task old new ChangeAnswer.Changed =
    (mid : View)
    × MakesAsked task.changes.left task.active old.running.tx task.left task.left_page
    (view_of old) mid
    × MakesAsked task.changes.right task.active old.running.tx task.right task.right_page
    mid (view_of new)
TellsOfOne task old new ChangeAnswer.OneLeft = ⊥
TellsOfOne task old new (ChangeAnswer.Full Side.Left) =
    IsFull task.changes.left task.active old.running.tx task.left task.left_page (view_of old)
    × (new ≡ old)
TellsOfOne task old new (ChangeAnswer.Full Side.Right) =
    ((mid : View)
    × MakesAsked task.changes.left task.active old.running.tx task.left task.left_page
    (view_of old) mid
    × IsFull task.changes.right task.active old.running.tx task.right task.right_page mid)
    × (new ≡ old)

-- the slot that is planned may be written
abbrev pub MayWrite : SlotPlan → LocalState → Type 0
MayWrite SlotPlan.Nothing m = Unit {0}
MayWrite (SlotPlan.Set write) m = (can_write m.locks m.running.tx write.number ≡ true)
    × ((bucket : BucketFields) × ReadsHeldBucket (view_of m) write.number bucket)
MayWrite SlotPlan.Full m = Unit {0}

-- and is written
abbrev pub WritesPlan : SlotPlan → LocalState → LocalState → Type 0
WritesPlan SlotPlan.Nothing old new = new ≡ old
WritesPlan (SlotPlan.Set write) old new =
    WritesHeldSlot old new write.number write.at write.slot
    × WritesSlot (view_of old) (view_of new) write.number write.at write.slot
WritesPlan SlotPlan.Full old new = new ≡ old

-- a plan is owed, if a slot is to be set
abbrev pub OwesPlan : SlotPlan → PairFields → PairFields → ChangeAnswer → Type 0
OwesPlan SlotPlan.Nothing before after told = (after ≡ before) × (told ≡ ChangeAnswer.Changed)
OwesPlan (SlotPlan.Set write) before after told =
    (after ≡ record before { owed = Some write }) × (told ≡ ChangeAnswer.OneLeft)
OwesPlan SlotPlan.Full before after told = (after ≡ before) × (told ≡ ChangeAnswer.Changed)
