-- What the changes of a walk tell
use Rattle.std.specs.Prelude.{ℕ, ◌≡◌, ◌≤◌, ◌⊎◌, true, IsSome, Bool, List, Some, None, position, ◌<◌}
use Rattle.std.specs.List.{list_all}
use Rattle.std.specs.FinMap as map
use Rattle.mlt_types.specs.declared.{mode.Mode.TheVariants.Exclusive, refusal.Refusal.Refusal}
use Rattle.mlt_page.specs.{Slots.is_ghost_of, Slots.is_kept, declared.slot.Slot.Slot, declared.slot.Slot.TheVariants.Live, declared.page.Page.Page, Values.BucketFields}
use Rattle.mlt_hash_form.specs.{Room.is_crowded, Plans.SetsFirst, Plans.WriteFields, Plans.has_room, Plans.planned_page}
use Rattle.mlt_hash_access.specs.{LocalStates.LocalState, PageSteps.WritesHeldPage, PageSteps.WritesHeldSlot, Views.ReadsHeldBucket, Views.View, Views.WritesPage}
use Rattle.mlt_hash_split.specs.declared.environment.Environment.{Environment}
use Rattle.mlt_hash.specs.{Passes.HasRoomFrom, Passes.IsNextPass, Passes.NeverHasRoom, Steps.IsSameWalk, declared.pass.Pass.Pass, declared.pass.Phase.Phase, declared.pass.Change.Change, declared.answer.WalkAnswer.WalkAnswer}
use Rattle.mlt_hash.specs.Walks.{WalkContext, IsStanding, MayWalk, WalkFields, nothing_before, view_for}

-- the walk is at its bucket
abbrev pub IsAtBucketPhase : Phase → Type 0
IsAtBucketPhase (Phase.AtBucket bucket depth found) = Unit {0}
IsAtBucketPhase other = ⊥

-- the walk is at its bucket, and found a record of its key there, or none
abbrev pub IsAtRecord : Phase → Type 0
IsAtRecord (Phase.AtBucket bucket depth found) = IsSome found
IsAtRecord other = ⊥

abbrev pub IsAtAbsent : Phase → Type 0
IsAtAbsent (Phase.AtBucket bucket depth found) = found ≡ None
IsAtAbsent other = ⊥

-- the walk has written its change
abbrev pub IsChangedPhase : Phase → Type 0
IsChangedPhase (Phase.Changed bucket done) = Unit {0}
IsChangedPhase other = ⊥

-- the page of the bucket that a walk is at
abbrev pub page_of : Phase → ℕ
page_of Phase.Start = 0
page_of (Phase.Headed dir row depth) = dir
page_of (Phase.Placed bucket depth) = bucket
page_of (Phase.AtBucket bucket depth found) = bucket
page_of (Phase.Full next) = 0
page_of (Phase.Adding value bucket room_depth unsplit) = bucket
page_of (Phase.Splitting value room_depth) = 0
page_of (Phase.Changed bucket done) = bucket

-- the bucket as the walk sees it
pub record SeesBucket (walk : WalkFields) (view : View) (fields : BucketFields) : Type 0 where
  pub at : view.seen (page_of walk.phase) ≡ Some (Some (Page.Bucket fields))

-- the transaction's own ghost of the key stands in the bucket
abbrev pub HasOwnGhost : ℕ → WalkFields → View → Type 0
HasOwnGhost tx walk view =
    (fields : BucketFields) × (i : ℕ)
    × SeesBucket walk view fields
    × (position (is_ghost_of walk.key tx) fields.slots ≡ Some i)

-- What a change asks: the walk may go on, and has its bucket exclusively.
pub record MayChange (context : WalkContext) (m : LocalState) (walk : WalkFields) : Type 0 where
  pub walks : MayWalk context m walk
  pub exclusive : walk.mode ≡ Exclusive

-- what a change asks of a walk of transaction tx, whatever it goes by
abbrev pub MayChangeBy : ℕ → LocalState → WalkFields → Type 0
MayChangeBy tx m walk = (context : WalkContext) × (context.tx ≡ tx) × MayChange context m walk

-- what a change asks of a walk of transaction tx that went to no key before
abbrev pub MayChangeFirst : ℕ → LocalState → WalkFields → Type 0
MayChangeFirst tx m walk =
    (context : WalkContext) × (context.tx ≡ tx) × MayChange context m walk × (context.before ≡ nothing_before)

-- a plan sets a slot of the bucket that its page reads as
pub record PlansSlot (view : View) (write : WriteFields) : Type 0 where
  pub bucket : BucketFields
  pub reads : ReadsHeldBucket view write.number bucket
  pub within : write.at < 8

-- A change of a slot is written as planned, or memory was refused for its page, at least the third one that is written, and
-- nothing has changed.
abbrev pub TellsOfWrite : LocalState → LocalState → WalkFields → WalkFields → WriteFields → Change → WalkAnswer
    → Type 0
TellsOfWrite old new before after write done WalkAnswer.Changed =
    WritesHeldSlot old new write.number write.at write.slot
    × (after ≡ record before { phase = Phase.Changed write.number done })
TellsOfWrite old new before after write done (WalkAnswer.Refused reason) =
    (reason ≡ Refusal.OutOfMemory) × (2 ≤ map.len old.running.images) × (new ≡ old) × (after ≡ before)
TellsOfWrite old new before after write done other = ⊥

-- page q was written if the answer is that the change is made, and else nothing has changed
abbrev pub WritesIfChanged : LocalState → LocalState → ℕ → WalkAnswer → Type 0
WritesIfChanged old new q WalkAnswer.Changed = (page : Page) × WritesHeldPage old new q page
WritesIfChanged old new q other = new ≡ old

-- The bucket on page q is written: s stands in the place of its first slot that has the property.
pub record FillsFirst (old new : View) (q : ℕ) (has : Slot → Bool) (s : Slot) : Type 0 where
  pub bucket : BucketFields
  pub reads : ReadsHeldBucket old q bucket
  pub write : WriteFields
  pub first : SetsFirst q bucket has s write
  pub writes : WritesPage old new q (planned_page bucket write)

-- a record of the walk's key stands in the place of the first ghost of it that transaction tx left in the bucket
abbrev pub RevivesFirst : ℕ → View → View → WalkFields → ℕ → ℕ → Type 0
RevivesFirst tx old new walk q value = FillsFirst old new q (is_ghost_of walk.key tx) (Live walk.key value)

-- It stands in the lowest slot with room: one that is free, or has a ghost whose owner is not open.
abbrev pub PutsLowest : WalkContext → View → View → WalkFields → ℕ → ℕ → Type 0
PutsLowest context old new walk q value = FillsFirst old new q (has_room context.active) (Live walk.key value)

-- which slot an addition takes: that of the transaction's own ghost; where it left none, the lowest with room
abbrev pub TakesSlot : WalkAnswer → WalkContext → View → View → WalkFields → ℕ → Type 0
TakesSlot WalkAnswer.Changed context old new walk value =
    RevivesFirst context.tx old new walk (page_of walk.phase) value
    ⊎ ((HasOwnGhost context.tx walk old → ⊥) × PutsLowest context old new walk (page_of walk.phase) value)
TakesSlot other context old new walk value = Unit {0}

-- the change is made
pub record Makes (context : WalkContext) (new : LocalState) (before after : WalkFields) (done : Change) : Type 0 where
  pub same : IsSameWalk before after
  pub phase : after.phase ≡ Phase.Changed (page_of before.phase) done
  pub stands : IsStanding context after (view_for context new)

-- Memory was refused, and the walk is as it was. The first change of a walk takes none.
abbrev pub LacksMemory : WalkContext → WalkFields → WalkFields → Refusal → Type 0
LacksMemory context before after reason =
    (reason ≡ Refusal.OutOfMemory) × (context.before ≡ nothing_before → ⊥) × (after ≡ before)

-- The change of the record that was found is made; or memory was refused, of which a walk's first
-- change takes none, and the walk is as it was.
abbrev pub TellsOfChange : WalkContext → LocalState → WalkFields → WalkFields → Change → WalkAnswer → Type 0
TellsOfChange context new before after done WalkAnswer.Changed = Makes context new before after done
TellsOfChange context new before after done (WalkAnswer.Refused reason) =
    LacksMemory context before after reason
TellsOfChange context new before after done other = ⊥

-- The bucket has neither a ghost of the transaction to revive nor a slot with room.
pub record IsFull (context : WalkContext) (walk : WalkFields) (view : View) (fields : BucketFields) : Type 0 where
  pub sees : SeesBucket walk view fields
  pub no_ghost : position (is_ghost_of walk.key context.tx) fields.slots ≡ None
  pub no_room : list_all (is_kept context.active) fields.slots ≡ true

-- at which depths a bucket with these slots would have no room for a key, in this environment
abbrev pub crowded_in : {P : Type 0} → (P → ℕ → ℕ) → Environment P → ℕ → List Slot → ℕ → Bool
crowded_in bits_of environment key slots d =
    is_crowded (bits_of environment.root.now.pseudo) environment.active.now d
    (bits_of environment.root.now.pseudo key) slots

-- and the bucket that a walk is at, for the walk's key
abbrev pub crowded_at : WalkContext → WalkFields → BucketFields → ℕ → Bool
crowded_at context walk fields d = is_crowded context.bits context.active d (context.bits walk.key) fields.slots

-- the depth of the directory that a walk at its bucket has read
abbrev pub directory_depth_of : Phase → ℕ
directory_depth_of (Phase.AtBucket bucket depth found) = depth
directory_depth_of other = 0

-- this pass is the one that splits the bucket
abbrev pub IsNext : WalkContext → WalkFields → BucketFields → Pass → Type 0
IsNext context walk fields next =
    IsNextPass (crowded_at context walk fields) fields.depth context.max_depth
    (directory_depth_of walk.phase) next

-- A split is needed: in a first pass this says which one follows, and a later pass is to go on, and may.
pub record NeedsSplit (context : WalkContext) (new : LocalState) (before after : WalkFields) (value : ℕ) : Type 0 where
  pub fields : BucketFields
  pub full : IsFull context before (view_for context new) fields
  pub same : IsSameWalk before after
  pub stands : IsStanding context after (view_for context new)
  pub first : before.pass ≡ Pass.First → (next : Pass) × (after.phase ≡ Phase.Full next) × IsNext context before fields next
  pub later : (before.pass ≡ Pass.First → ⊥) → (d : ℕ)
      × (after.phase ≡ Phase.Adding value (page_of before.phase) d true)
      × HasRoomFrom (crowded_at context before fields) fields.depth context.max_depth d
  pub narrow : before.pass ≡ Pass.Narrow → IsNext context before fields Pass.Narrow

-- A narrow pass has to be wide.
pub record MustWiden (context : WalkContext) (new : LocalState) (before after : WalkFields) : Type 0 where
  pub fields : BucketFields
  pub full : IsFull context before (view_for context new) fields
  pub same : IsSameWalk before after
  pub stands : IsStanding context after (view_for context new)
  pub narrow : before.pass ≡ Pass.Narrow
  pub wide : IsNext context before fields Pass.Wide
  pub phase : after.phase ≡ Phase.Full Pass.Wide

-- There is no room at any depth that the directory may get, and the pass is the one that would split. The walk is as it was.
pub record HasNoRoom (context : WalkContext) (new : LocalState) (before after : WalkFields) : Type 0 where
  pub fields : BucketFields
  pub full : IsFull context before (view_for context new) fields
  pub shallow : fields.depth ≤ context.max_depth
  pub never : NeverHasRoom (crowded_at context before fields) fields.depth context.max_depth
  pub later : before.pass ≡ Pass.First → ⊥
  pub narrow : before.pass ≡ Pass.Narrow → IsNext context before fields Pass.Narrow
  pub stays : after ≡ before

-- A record of this value is added: in the place of the transaction's own ghost, or in a slot with room.
abbrev pub TellsOfAddition : WalkContext → LocalState → WalkFields → WalkFields → ℕ → WalkAnswer → Type 0
TellsOfAddition context new before after value WalkAnswer.Changed =
    Makes context new before after (Change.Revive value)
    ⊎ Makes context new before after (Change.Put value)
TellsOfAddition context new before after value WalkAnswer.NeedSplit = NeedsSplit context new before after value
TellsOfAddition context new before after value WalkAnswer.Widen = MustWiden context new before after
TellsOfAddition context new before after value (WalkAnswer.Refused Refusal.NoRoom) = HasNoRoom context new before after
TellsOfAddition context new before after value (WalkAnswer.Refused reason) =
    LacksMemory context before after reason
TellsOfAddition context new before after value other = ⊥
