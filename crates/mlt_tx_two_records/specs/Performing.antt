-- How the change of a record that is decided on is made: by a walk, and by a pair
use Rattle.std.specs.Prelude.{ℕ, ◌≡◌, ◌⊎◌, Option, None, Some}
use Rattle.mlt_object_kinds.specs.declared.{element.ElementOp.ElementOp, operation.ObjOp.TheVariants.Element, operation.ObjReply.ObjReply}
use Rattle.mlt_object_base.specs.{declared.record.RecChange.RecChange, declared.record.RecChange.TheVariants.Add, declared.record.RecChange.TheVariants.ToGhost, declared.record.RecChange.TheVariants.Revive, declared.request.Request.Request, declared.request.Request.TheVariants.Do, Records.counter_of_record, Records.record_after, Requests.decision}
use Rattle.mlt_hash_pair.specs.declared.asked.RecordChange.{RecordChange}
use Rattle.mlt_hash.specs.declared.pass.Change.{Change}

-- the slot gets the value that the record then has
abbrev pub SetsTo : Option ℕ → Change → Type 0
SetsTo None done = ⊥
SetsTo (Some v) done = done ≡ Change.Set v

-- the change of the slot is the one that was decided on, where the record had this value, or there was none
abbrev pub Performs : RecChange → Option ℕ → Change → Type 0
Performs (Add v) found done = (done ≡ Change.Put v) ⊎ (done ≡ Change.Revive v)
Performs ToGhost found done = done ≡ Change.Remove
Performs Revive found done = done ≡ Change.Revive 0
Performs decided found done = SetsTo (record_after (Some decided) found) done

-- what a pair is asked for then
abbrev pub asked_of : RecChange → Option ℕ → RecordChange
asked_of (Add v) found = RecordChange.Insert v
asked_of ToGhost found = RecordChange.Remove
asked_of Revive found = RecordChange.Insert 0
asked_of decided found = RecordChange.Update (counter_of_record (record_after (Some decided) found))

-- where no record is found, the request asks for one of this value
abbrev pub AsksToAdd : Request → ℕ → Type 0
AsksToAdd request value = (reply : ObjReply) × (decision request None ≡ (reply, Some (Add value)))

-- it is to add an element to a set: of the requests that change a size, only this one may find no room
abbrev pub AddsElement : Request → Type 0
AddsElement (Do (Element s e ElementOp.Add)) = Unit {0}
AddsElement _ = ⊥
