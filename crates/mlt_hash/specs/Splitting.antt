-- What the steps of a walk tell that splits its bucket and then adds its record
use Rattle.std.specs.Prelude.{ℕ, ◌≡◌, ◌+◌, ◌⊎◌, true, false, Some}
use Rattle.std.specs.List.{list_all}
use Rattle.std.specs.FinMap as map
use Rattle.mlt_types.specs.declared.{mode.Mode.TheVariants.Exclusive, refusal.Refusal.Refusal}
use Rattle.mlt_page.specs.{Slots.is_kept, Values.BucketFields, Values.HeadFields, declared.page.Page.Page}
use Rattle.mlt_page_locks.specs.Requests.{IsLowest, conflicts}
use Rattle.mlt_hash_access.specs.{LocalStates.LocalState, PageSteps.MakesLockedPage, PageSteps.WritesAtMost}
use Rattle.mlt_hash_split.specs.{Rests.held_page, Splits.HasHalves, Splits.SplitFields, Splits.directory_steps, Splits.steps_left, Steps.IsDone, Steps.IsLeft, Steps.IsMaking, Steps.IsNextPage, Tells.Rests}
use Rattle.mlt_hash.specs.Walks.{WalkContext, IsStanding, WalkFields, split_target, view_for}
use Rattle.mlt_hash.specs.{Steps.IsSameWalk, Steps.TellsOfPath, Changes.Makes, Changes.PutsLowest, declared.pass.Phase.Phase, declared.pass.Change.Change, declared.answer.WalkAnswer.WalkAnswer}

-- one step of a walk: the state and the walk, before it and after
pub record WalkStep : Type 0 where
  pub old : LocalState
  pub new : LocalState
  pub before : WalkFields
  pub after : WalkFields

abbrev pub walk_step : LocalState → LocalState → WalkFields → WalkFields → WalkStep
walk_step old new before after = record { old = old; new = new; before = before; after = after }

-- the walk is the same and stands somewhere
pub record StandsOn (context : WalkContext) (new : LocalState) (before after : WalkFields) : Type 0 where
  pub same : IsSameWalk before after
  pub stands : IsStanding context after (view_for context new)

-- the walk has to split its bucket: it has not yet, or there is still no room
abbrev pub HasToSplit : WalkContext → LocalState → WalkFields → ℕ → ℕ → ℕ → Type 0
HasToSplit context old before value n room_depth =
    (before.phase ≡ Phase.Adding value n room_depth true)
    ⊎ ((bucket : BucketFields) × (held_page (view_for context old) n ≡ Some (Page.Bucket bucket))
    × (list_all (is_kept context.active) bucket.slots ≡ true))

-- this is so of the walk's split
abbrev pub OfSplit : WalkFields → (SplitFields → Type 0) → Type 0
OfSplit walk Is = (split : SplitFields) × (walk.split ≡ Some split) × Is split

-- A split of the bucket on page n begins: with the new bucket made, it takes so many steps more as the depths of the bucket and of
-- the directory say.
pub record BeginsSplit (context : WalkContext) (step : WalkStep) (value n room_depth : ℕ) : Type 0 where
  pub needed : HasToSplit context step.old step.before value n room_depth
  pub on : StandsOn context step.new step.before step.after
  pub phase : step.after.phase ≡ Phase.Splitting value room_depth
  pub split : SplitFields
  pub split_is : step.after.split ≡ Some split
  pub header : HeadFields
  pub head : held_page (view_for context step.old) context.root ≡ Some (Page.Head header)
  pub bucket : BucketFields
  pub found : held_page (view_for context step.old) n ≡ Some (Page.Bucket bucket)
  pub depth : split.depth ≡ bucket.depth
  pub directory_depth : split.directory_depth ≡ header.depth
  pub steps : steps_left split ≡ 1 + directory_steps split.depth split.directory_depth
  pub made : (page : Page) × MakesLockedPage step.old step.new split.new_page page
  pub halves : HasHalves (split_target context step.before room_depth) step.new.store.pages bucket split

-- The split goes on, one step fewer is left.
pub record SplitGoesOn (context : WalkContext) (new : LocalState) (before after : WalkFields) (value room_depth : ℕ) : Type 0 where
  pub on : StandsOn context new before after
  pub phase : after.phase ≡ Phase.Splitting value room_depth
  pub was : SplitFields
  pub is : SplitFields
  pub was_is : before.split ≡ Some was
  pub is_is : after.split ≡ Some is
  pub fewer : steps_left is + 1 ≡ steps_left was
  pub depth : is.depth ≡ was.depth
  pub directory_depth : is.directory_depth ≡ was.directory_depth

-- That was its last step: the key's bucket is one deeper, and so is the directory, where it was doubled.
pub record SplitCloses (context : WalkContext) (new : LocalState) (before after : WalkFields) (value room_depth : ℕ) : Type 0 where
  pub on : StandsOn context new before after
  pub bucket : ℕ
  pub phase : after.phase ≡ Phase.Adding value bucket room_depth false
  pub was : SplitFields
  pub was_is : before.split ≡ Some was
  pub last : steps_left was ≡ 1
  pub rests : Rests (split_target context before room_depth) new was bucket

-- a step of a walk whose bucket had no room: it puts the record where there is room now, into the lowest slot, but splits once
-- at least
abbrev pub TellsOfAdding : WalkContext → WalkStep → ℕ → ℕ → ℕ → WalkAnswer → Type 0
TellsOfAdding context step value bucket room_depth WalkAnswer.Going =
    BeginsSplit context step value bucket room_depth
TellsOfAdding context step value bucket room_depth WalkAnswer.Changed =
    (step.before.phase ≡ Phase.Adding value bucket room_depth false)
    × Makes context step.new step.before step.after (Change.Put value)
    × WritesAtMost step.old step.new bucket
    × PutsLowest context (view_for context step.old) (view_for context step.new) step.before bucket value
TellsOfAdding context step value bucket room_depth (WalkAnswer.Refused Refusal.NoRoom) =
    HasToSplit context step.old step.before value bucket room_depth
    × (map.len step.old.store.pages ≡ step.old.store.max_pages)
TellsOfAdding context step value bucket room_depth (WalkAnswer.Refused reason) =
    reason ≡ Refusal.OutOfMemory
TellsOfAdding context step value bucket room_depth other = ⊥

-- a step of a walk that splits its bucket tells what the step of the split tells, and which page that one locked or made
abbrev pub TellsOfSplitting : WalkContext → WalkStep → ℕ → ℕ → WalkAnswer → Type 0
TellsOfSplitting context step value room_depth WalkAnswer.Going =
    OfSplit step.before (λ split.
    IsDone split.phase (split_target context step.before room_depth) step.old step.new split)
    × (SplitGoesOn context step.new step.before step.after value room_depth
    ⊎ SplitCloses context step.new step.before step.after value room_depth)
TellsOfSplitting context step value room_depth (WalkAnswer.Waiting page by) =
    OfSplit step.before (λ split.
    IsNextPage split.phase (split_target context step.before room_depth) (view_for context step.old) page)
    × IsLowest (conflicts step.old.locks step.old.running.tx page Exclusive) by
    × (step.new ≡ step.old)
    × (step.after ≡ step.before)
TellsOfSplitting context step value room_depth (WalkAnswer.Refused Refusal.NoRoom) =
    OfSplit step.before (λ split. IsMaking split.phase)
    × (step.new ≡ step.old)
    × (map.len step.old.store.pages ≡ step.old.store.max_pages)
TellsOfSplitting context step value room_depth (WalkAnswer.Refused reason) =
    (reason ≡ Refusal.OutOfMemory)
    × OfSplit step.before (λ split.
    IsLeft split.phase (split_target context step.before room_depth) step.old step.new)
TellsOfSplitting context step value room_depth other = ⊥

-- what a step tells, by where the walk stood
abbrev pub TellsAt : Phase → WalkContext → LocalState → LocalState → WalkFields → WalkFields → WalkAnswer → Type 0
TellsAt (Phase.Adding value bucket room_depth unsplit) context old new before after told =
    TellsOfAdding context (walk_step old new before after) value bucket room_depth told
TellsAt (Phase.Splitting value room_depth) context old new before after told =
    TellsOfSplitting context (walk_step old new before after) value room_depth told
TellsAt other context old new before after told = TellsOfPath context old new before after told

-- the next step makes a page: it begins a split, or makes a page of the one under way
abbrev pub HasToMake : Phase → WalkContext → LocalState → WalkFields → Type 0
HasToMake (Phase.Adding value bucket room_depth unsplit) context old before =
    HasToSplit context old before value bucket room_depth
HasToMake (Phase.Splitting value room_depth) context old before = OfSplit before (λ split. IsMaking split.phase)
HasToMake other context old before = ⊥

-- the walk has a next step: it is on its way to its bucket, or splits it
abbrev pub IsUnderWay : Phase → Type 0
IsUnderWay Phase.Start = Unit {0}
IsUnderWay (Phase.Headed dir row depth) = Unit {0}
IsUnderWay (Phase.Placed bucket depth) = Unit {0}
IsUnderWay (Phase.AtBucket bucket depth found) = ⊥
IsUnderWay (Phase.Full next) = ⊥
IsUnderWay (Phase.Adding value bucket room_depth unsplit) = Unit {0}
IsUnderWay (Phase.Splitting value room_depth) = Unit {0}
IsUnderWay (Phase.Changed bucket done) = ⊥
