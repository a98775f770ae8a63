-- What the steps and the changes of a walk tell
use Rattle.std.specs.Prelude.{ℕ, ◌≡◌, ◌<◌, ◌+◌, Option}
use Rattle.mlt_types.specs.declared.mode.Mode.{Mode, TheVariants.Exclusive}
use Rattle.mlt_page_locks.specs.Requests.{IsLowest, conflicts}
use Rattle.mlt_hash_access.specs.{LocalStates.LocalState, PageSteps.LocksAtMost}
use Rattle.mlt_hash.specs.{Passes.bucket_mode, Passes.directory_mode, Passes.header_mode, Walks.WalkContext, Walks.IsStanding, Walks.WalkFields, Walks.view_for, declared.pass.Phase.Phase, declared.answer.WalkAnswer.WalkAnswer}

-- how many steps a pass still takes until it has found its key, those that wait aside
abbrev pub steps_to_bucket : Phase → ℕ
steps_to_bucket Phase.Start = 3
steps_to_bucket (Phase.Headed dir row depth) = 2
steps_to_bucket (Phase.Placed bucket depth) = 1
steps_to_bucket (Phase.AtBucket bucket depth found) = 0
steps_to_bucket (Phase.Full next) = 0
steps_to_bucket (Phase.Adding value bucket room_depth unsplit) = 0
steps_to_bucket (Phase.Splitting value room_depth) = 0
steps_to_bucket (Phase.Changed bucket done) = 0

-- the page that the next step to the bucket locks, and its mode
abbrev pub next_page : ℕ → Phase → ℕ
next_page root Phase.Start = root
next_page root (Phase.Headed dir row depth) = dir
next_page root (Phase.Placed bucket depth) = bucket
next_page root (Phase.AtBucket bucket depth found) = bucket
next_page root (Phase.Full next) = root
next_page root (Phase.Adding value bucket room_depth unsplit) = bucket
next_page root (Phase.Splitting value room_depth) = root
next_page root (Phase.Changed bucket done) = bucket

abbrev pub next_mode : WalkFields → Phase → Mode
next_mode walk Phase.Start = header_mode walk.pass
next_mode walk (Phase.Headed dir row depth) = directory_mode walk.pass
next_mode walk (Phase.Placed bucket depth) = bucket_mode walk.pass walk.mode
next_mode walk (Phase.AtBucket bucket depth found) = Exclusive
next_mode walk (Phase.Full next) = Exclusive
next_mode walk (Phase.Adding value bucket room_depth unsplit) = Exclusive
next_mode walk (Phase.Splitting value room_depth) = Exclusive
next_mode walk (Phase.Changed bucket done) = Exclusive

-- the walk is the same but for its phase
pub record IsSameWalk (before after : WalkFields) : Type 0 where
  pub key : after.key ≡ before.key
  pub mode : after.mode ≡ before.mode
  pub pass : after.pass ≡ before.pass

-- the walk is at its bucket, and has found this
abbrev pub HasFound : Phase → Option ℕ → Type 0
HasFound (Phase.AtBucket bucket depth found) value = found ≡ value
HasFound other value = ⊥

-- one step fewer is left to the bucket
pub record GoesOn (context : WalkContext) (new : LocalState) (before after : WalkFields) : Type 0 where
  pub same : IsSameWalk before after
  pub stands : IsStanding context after (view_for context new)
  pub fewer : steps_to_bucket after.phase + 1 ≡ steps_to_bucket before.phase

-- A step to the bucket: it goes on, with more to come, or has found the key's value, or waits for the next page, told the
-- lowest transaction whose lock stands against its own, and nothing has changed.
abbrev pub TellsOfPath : WalkContext → LocalState → LocalState → WalkFields → WalkFields → WalkAnswer → Type 0
TellsOfPath context old new before after WalkAnswer.Going = GoesOn context new before after × (0 < steps_to_bucket after.phase)
TellsOfPath context old new before after (WalkAnswer.Waiting page by) =
    (page ≡ next_page context.root before.phase)
    × IsLowest (conflicts old.locks old.running.tx page (next_mode before before.phase)) by
    × (new ≡ old)
    × (after ≡ before)
TellsOfPath context old new before after (WalkAnswer.Found value) = GoesOn context new before after × HasFound after.phase value
TellsOfPath context old new before after other = ⊥

-- where the key was found, all that the step did is to lock page q
abbrev pub LocksIfFound : LocalState → LocalState → ℕ → WalkAnswer → Type 0
LocksIfFound old new q (WalkAnswer.Found value) = LocksAtMost old new q
LocksIfFound old new q other = Unit {0}
