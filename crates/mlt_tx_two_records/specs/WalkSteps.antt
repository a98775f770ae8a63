-- What a step of a walk is to who goes by it: how near it is to its change, what it waits for, and why it is refused
use Rattle.std.specs.Prelude.{ℕ, ◌≡◌, ◌<◌, ◌≤◌, ◌+◌, ◌⊎◌, None}
use Rattle.mlt_types.specs.declared.mode.Mode.{Mode, TheVariants.Exclusive}
use Rattle.mlt_page_locks.specs.Requests.{IsLowest, conflicts}
use Rattle.mlt_hash_access.specs.{LocalStates.LocalState, PageSteps.HasNoPageLeft, Views.View}
use Rattle.mlt_hash_split.specs.Steps.{IsNextPage}
use Rattle.mlt_hash.specs.Walks.{WalkContext, IsStanding, WalkFields, split_target, view_for}
use Rattle.mlt_hash.specs.Steps.{HasFound, IsSameWalk, next_mode, next_page, steps_to_bucket}
use Rattle.mlt_hash.specs.{StepsLeft.steps_to_put, Splitting.HasToMake, Splitting.OfSplit, Changes.HasNoRoom, Changes.NeedsSplit, declared.pass.Phase.Phase}
use Rattle.mlt_tx_two_records.specs.Depths.{GoesDown}

-- How many steps are left up to the change of the key's record, as far as is known: to the bucket, and then of its splits.
abbrev pub steps_to_change : ℕ → WalkFields → View → ℕ
steps_to_change root walk view = steps_to_bucket walk.phase + steps_to_put root walk view

-- One of them is taken: to the bucket, or of a split.
pub record GoesNearer (root : ℕ) (old new : View) (before after : WalkFields) : Type 0 where
  pub nearer : steps_to_bucket after.phase ≤ steps_to_bucket before.phase
  pub by_one : steps_to_change root after new + 1 ≡ steps_to_change root before old
  pub down : (0 < steps_to_bucket before.phase) ⊎ GoesDown root before after old new

-- It has reached its bucket, and found no record there.
pub record ReachesBucket (context : WalkContext) (m : LocalState) (before walk : WalkFields) : Type 0 where
  pub last : steps_to_bucket before.phase ≡ 1
  pub same : IsSameWalk before walk
  pub found : HasFound walk.phase None
  pub stands : IsStanding context walk (view_for context m)

-- Its bucket has no room, and it is to be split in this pass.
pub record BeginsToSplit (context : WalkContext) (new : LocalState) (before after : WalkFields) : Type 0 where
  pub walk : WalkFields
  pub reaches : ReachesBucket context new before walk
  pub value : ℕ
  pub needs : NeedsSplit context new walk after value
  pub at_bucket : steps_to_bucket after.phase ≡ 0

-- the lock that its next step asks for: of which page, and in which mode
abbrev pub AsksForAt : Phase → WalkContext → View → WalkFields → ℕ → Mode → Type 0
AsksForAt (Phase.Splitting value room_depth) context view walk page mode =
    OfSplit walk (λ split. IsNextPage split.phase (split_target context walk room_depth) view page)
    × (mode ≡ Exclusive)
AsksForAt (Phase.Adding value bucket room_depth unsplit) context view walk page mode = ⊥
AsksForAt other context view walk page mode =
    (page ≡ next_page context.root other) × (mode ≡ next_mode walk other)

-- It waits for a page, told the lowest transaction whose lock stands against its own. Nothing has changed.
pub record WalkWaits (context : WalkContext) (old new : LocalState) (before after : WalkFields) (page by : ℕ)
    : Type 0 where
  pub mode : Mode
  pub asks : AsksForAt before.phase context (view_for context old) before page mode
  pub lowest : IsLowest (conflicts old.locks old.running.tx page mode) by
  pub pages : new ≡ old
  pub stays : after ≡ before

-- its next step makes a page, and there may be no more
pub record LacksPage (context : WalkContext) (old : LocalState) (before : WalkFields) : Type 0 where
  pub makes : HasToMake before.phase context old before
  pub full : HasNoPageLeft old.store

-- it has reached its bucket, and has no room at any depth
pub record LacksRoom (context : WalkContext) (m : LocalState) (before : WalkFields) : Type 0 where
  pub walk : WalkFields
  pub after : WalkFields
  pub reaches : ReachesBucket context m before walk
  pub none : HasNoRoom context m walk after
