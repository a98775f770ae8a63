-- What a wide pass does at the bucket of either key
use Rattle.std.specs.Prelude.{ℕ, ◌≡◌, None, Option, Some}
use Rattle.mlt_types.specs.declared.refusal.Refusal.{Refusal}
use Rattle.mlt_object_kinds.specs.declared.operation.ObjReply.{ObjReply}
use Rattle.mlt_object_base.specs.{declared.record.RecChange.RecChange, declared.record.RecChange.TheVariants.Add, declared.record.RecChange.TheVariants.Plus, declared.request.Request.Request, Requests.target_of}
use Rattle.mlt_hash_access.specs.{LocalStates.LocalState, PageTurns.IsRolledBack, Views.view_of}
use Rattle.mlt_hash.specs.{Changes.HasNoRoom, Changes.Makes, Changes.NeedsSplit, Changes.page_of, Splitting.IsUnderWay, Steps.HasFound, Steps.steps_to_bucket, declared.answer.WalkAnswer.WalkAnswer, declared.pass.Change.Change, declared.pass.Phase.Phase}
use Rattle.mlt_hash.specs.Walks.{WalkContext, Before, MayWalk, WalkFields, context_after, one_key}
use Rattle.mlt_tx_two_records.specs.{declared.answer.TwoRecordAnswer.TwoRecordAnswer, declared.two_records.WideStage.WideStage, AtBuckets.Writes, FirstPass.HasKeys, Performing.AddsElement, Performing.Performs}
use Rattle.mlt_tx_two_records.specs.WidePass.{HasPutOwn, HasToldBoth, HasToldPresent, IsGoingToOwn, IsGoingToSize, IsWideTo, PutsOwn, PutsSize, PutsThen}

-- A walk of a wide pass to its own key, which may go on.
pub record MayWalkToOwn (context : WalkContext) (m : LocalState) (request : Request) (walk : WalkFields)
    : Type 0 where
  pub adds : AddsElement request
  pub size : ℕ
  pub keys : HasKeys request walk.key size
  pub to_key : IsWideTo walk (target_of request).0
  pub walks : MayWalk (one_key context) m walk

-- It is at its bucket, and has found this there.
pub record MayActOnOwn (context : WalkContext) (m : LocalState) (request : Request) (walk : WalkFields)
    (found : Option ℕ) : Type 0 where
  pub may : MayWalkToOwn context m request walk
  pub at_bucket : HasFound walk.phase found

-- It has put the own record.
pub record HasJustPut (context : WalkContext) (m : LocalState) (request : Request) (walk : WalkFields)
    : Type 0 where
  pub may : MayWalkToOwn context m request walk
  pub bucket : ℕ
  pub done : Change
  pub phase : walk.phase ≡ Phase.Changed bucket done
  pub reply : ObjReply
  pub value : ℕ
  pub decided : PutsOwn request reply value
  pub performs : Performs (Add value) None done

-- The bucket, which has no record of the key, is to be split in this pass.
pub record IsToSplit (context : WalkContext) (old new : LocalState) (before after : WalkFields) : Type 0 where
  pub stays : new ≡ old
  pub absent : HasFound before.phase None
  pub value : ℕ
  pub needs : NeedsSplit context new before after value

-- There is no room at any depth, and all is rolled back.
pub record HasNoRoomThere (context : WalkContext) (old : LocalState) (before : WalkFields) : Type 0 where
  pub absent : HasFound before.phase None
  pub after : WalkFields
  pub none : HasNoRoom context old before after

-- what it tells there, by the stage that follows
abbrev pub TellsAtOwn : WalkContext → LocalState → LocalState → Request → WalkFields → WideStage → WalkFields
    → TwoRecordAnswer → Type 0
TellsAtOwn context old new request before WideStage.Own after TwoRecordAnswer.Going =
    IsToSplit (one_key context) old new before after
    × IsGoingToOwn context request after (view_of new)
TellsAtOwn context old new request before WideStage.Size after TwoRecordAnswer.Going =
    Writes old new (page_of before.phase) × IsGoingToSize context request after (view_of new)
    × (steps_to_bucket after.phase ≡ 2)
TellsAtOwn context old new request before WideStage.Own after (TwoRecordAnswer.Told reply) =
    (new ≡ old) × HasToldPresent context request after reply (view_of new)
TellsAtOwn context old new request before WideStage.Own after (TwoRecordAnswer.Refused Refusal.NoRoom) =
    IsRolledBack old new × HasNoRoomThere (one_key context) old before
TellsAtOwn context old new request before other after other' = ⊥

-- A walk of a wide pass to the size's key, over what it wrote for the own one, which may go on. What the pass did before is a
-- parameter here, since the walk goes by it.
pub record MayWalkToSize (context : WalkContext) (m : LocalState) (request : Request) (walk : WalkFields)
    (since : Before) : Type 0 where
  pub adds : AddsElement request
  pub put : HasPutOwn context request (view_of m) since
  pub keys : HasKeys request (target_of request).0 walk.key
  pub to_key : IsWideTo walk walk.key
  pub walks : MayWalk (context_after since context) m walk

-- It has a next step.
pub record MayStepToSize (context : WalkContext) (m : LocalState) (request : Request) (walk : WalkFields)
    (since : Before) : Type 0 where
  pub may : MayWalkToSize context m request walk since
  pub under_way : IsUnderWay walk.phase
  pub puts : PutsThen walk.phase (PutsSize request may.put.reply)

-- It is at its bucket, and has found this there.
pub record MayActOnSize (context : WalkContext) (m : LocalState) (request : Request) (walk : WalkFields)
    (found : Option ℕ) (since : Before) : Type 0 where
  pub may : MayWalkToSize context m request walk since
  pub at_bucket : HasFound walk.phase found

-- A size is raised: its record is added where there was none.
abbrev pub Raises : Option ℕ → RecChange → Type 0
Raises None (Add value) = Unit {0}
Raises (Some value) (Plus amount) = Unit {0}
Raises found other = ⊥

-- The change that was decided on is made.
pub record IsMade (context : WalkContext) (new : LocalState) (before after : WalkFields) (decided : RecChange)
    (found : Option ℕ) : Type 0 where
  pub done : Change
  pub makes : Makes context new before after done
  pub performs : Performs decided found done

-- what is so of the value, where a record is added
abbrev pub OfAddition : RecChange → (ℕ → Type 0) → Type 0
OfAddition (Add value) Is = Is value
OfAddition other Is = ⊥

-- what a change tells that raises the size: only where the record is added may there be no room
abbrev pub TellsOfRaise : WalkContext → LocalState → WalkFields → WalkFields → RecChange → Option ℕ
    → WalkAnswer → Type 0
TellsOfRaise context new before after decided found WalkAnswer.Changed =
    IsMade context new before after decided found
TellsOfRaise context new before after decided found WalkAnswer.NeedSplit =
    OfAddition decided (λ value. NeedsSplit context new before after value)
TellsOfRaise context new before after decided found (WalkAnswer.Refused Refusal.NoRoom) =
    OfAddition decided (λ value. HasNoRoom context new before after)
TellsOfRaise context new before after decided found (WalkAnswer.Refused reason) =
    reason ≡ Refusal.OutOfMemory
TellsOfRaise context new before after decided found other = ⊥

-- It is refused there: there is no room at any depth, or memory was refused to keep the page as it was.
abbrev pub RefusesAt : Refusal → WalkContext → LocalState → WalkFields → Type 0
RefusesAt Refusal.NoRoom context old before = HasNoRoomThere context old before
RefusesAt Refusal.OutOfMemory context old before = Unit {0}
RefusesAt other context old before = ⊥

abbrev pub TellsAtSize : WalkContext → Before → LocalState → LocalState → Request → WalkFields → WalkFields
    → TwoRecordAnswer → Type 0
TellsAtSize context since old new request before after TwoRecordAnswer.Going =
    IsToSplit (context_after since context) old new before after
    × IsGoingToSize context request after (view_of new)
TellsAtSize context since old new request before after (TwoRecordAnswer.Told reply) =
    Writes old new (page_of before.phase) × HasToldBoth context request after reply (view_of new)
TellsAtSize context since old new request before after (TwoRecordAnswer.Refused reason) =
    IsRolledBack old new × RefusesAt reason (context_after since context) old before
TellsAtSize context since old new request before after other = ⊥
