-- What a change asks of its key's bucket, and what is planned there
use Rattle.std.specs.Prelude.{ℕ, ◌≡◌, ◌<◌, ◌⊎◌, IsSome, true, false, List, slice_index_or, Option, None, Some}
use Rattle.std.specs.Ordering.{nat_cmp}
use Rattle.std.specs.FinSet as set
use Rattle.mlt_page.specs.{Slots.is_ghost_of, Slots.is_live_of, declared.slot.Slot.Slot, declared.slot.Slot.TheVariants.Free, declared.slot.Slot.TheVariants.Ghost, declared.slot.Slot.TheVariants.Live, Values.BucketFields, Values.with_slot}
use Rattle.mlt_hash_form.specs.Plans.{IsNowhere, SetsFirst, WriteFields, has_room}
use Rattle.mlt_hash_pair.specs.declared.{asked.RecordChange.RecordChange, plan.SlotPlan.SlotPlan}

-- a change fits what was found of its key: an insertion asks that there is no record, and another change that there is one
abbrev pub FitsFound : Option RecordChange → Option ℕ → Type 0
FitsFound None found = Unit {0}
FitsFound (Some (RecordChange.Insert value)) found = found ≡ None
FitsFound (Some (RecordChange.Update value)) found = IsSome found
FitsFound (Some RecordChange.Remove) found = IsSome found

-- no slot has a record of the key, or one has
abbrev pub IsAbsent : ℕ → List Slot → Type 0
IsAbsent key slots = (i : ℕ) → is_live_of key (slice_index_or slots i Free) ≡ false

abbrev pub IsPresent : ℕ → List Slot → Type 0
IsPresent key slots = (i : ℕ) × (is_live_of key (slice_index_or slots i Free) ≡ true)

-- the same of the slots of its bucket
abbrev pub FitsSlots : Option RecordChange → ℕ → List Slot → Type 0
FitsSlots None key slots = Unit {0}
FitsSlots (Some (RecordChange.Insert value)) key slots = IsAbsent key slots
FitsSlots (Some (RecordChange.Update value)) key slots = IsPresent key slots
FitsSlots (Some RecordChange.Remove) key slots = IsPresent key slots

-- Transaction tx changes the record of a key in the bucket on page q. An insertion takes the slot of the first ghost of the key
-- that the transaction left, and where it left none, the lowest slot with room; another change takes that of the record.
abbrev pub IsPlan
    : RecordChange → set.FinSet nat_cmp → ℕ → ℕ → ℕ → BucketFields → WriteFields → Type 0
IsPlan (RecordChange.Insert value) active tx key q bucket write =
    SetsFirst q bucket (is_ghost_of key tx) (Live key value) write
    ⊎ (IsNowhere (is_ghost_of key tx) bucket.slots
    × SetsFirst q bucket (has_room active) (Live key value) write)
IsPlan (RecordChange.Update value) active tx key q bucket write =
    SetsFirst q bucket (is_live_of key) (Live key value) write
IsPlan RecordChange.Remove active tx key q bucket write =
    SetsFirst q bucket (is_live_of key) (Ghost key 0 tx) write

-- there is no such slot: only an insertion may find none
abbrev pub HasNoPlan : RecordChange → set.FinSet nat_cmp → ℕ → ℕ → BucketFields → Type 0
HasNoPlan (RecordChange.Insert value) active tx key bucket =
    IsNowhere (is_ghost_of key tx) bucket.slots × IsNowhere (has_room active) bucket.slots
HasNoPlan (RecordChange.Update value) active tx key bucket = ⊥
HasNoPlan RecordChange.Remove active tx key bucket = ⊥

-- what is planned, by what is asked
abbrev pub IsPlanned
    : SlotPlan → Option RecordChange → set.FinSet nat_cmp → ℕ → ℕ → ℕ → BucketFields → Type 0
IsPlanned SlotPlan.Nothing asked active tx key q bucket = asked ≡ None
IsPlanned (SlotPlan.Set write) asked active tx key q bucket =
    (change : RecordChange) × (asked ≡ Some change) × IsPlan change active tx key q bucket write
IsPlanned SlotPlan.Full asked active tx key q bucket =
    (change : RecordChange) × (asked ≡ Some change) × HasNoPlan change active tx key bucket

-- a slot that is planned is one of the eight
abbrev pub IsWithin : SlotPlan → Type 0
IsWithin SlotPlan.Nothing = Unit {0}
IsWithin (SlotPlan.Set write) = write.at < 8
IsWithin SlotPlan.Full = Unit {0}

-- the bucket with the plan in it
abbrev pub bucket_after : BucketFields → SlotPlan → BucketFields
bucket_after bucket SlotPlan.Nothing = bucket
bucket_after bucket (SlotPlan.Set write) = with_slot bucket write.at write.slot
bucket_after bucket SlotPlan.Full = bucket

-- the value that the key has once the change is made, and what stands in the slot
abbrev pub value_after : RecordChange → Option ℕ
value_after (RecordChange.Insert value) = Some value
value_after (RecordChange.Update value) = Some value
value_after RecordChange.Remove = None

abbrev pub slot_after : RecordChange → ℕ → ℕ → Slot
slot_after (RecordChange.Insert value) key tx = Live key value
slot_after (RecordChange.Update value) key tx = Live key value
slot_after RecordChange.Remove key tx = Ghost key 0 tx
