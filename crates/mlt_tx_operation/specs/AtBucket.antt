-- What an operation on one record does once its walk has reached its bucket
use Rattle.std.specs.Prelude.{ℕ, ◌≡◌, ◌⊎◌, Option, None}
use Rattle.mlt_types.specs.declared.refusal.Refusal.{Refusal}
use Rattle.mlt_object_base.specs.{Effects.inverse_of, Requests.size_key_of, Requests.target_of, declared.request.Request.Request, declared.request.Request.TheVariants.Do, declared.request.Request.TheVariants.TakeBack}
use Rattle.mlt_hash_access.specs.{LocalStates.LocalState, PageSteps.Leaves, PageSteps.WritesAtMost, PageTurns.IsRolledBack, Views.View, Views.view_of}
use Rattle.mlt_hash.specs.{Walks.WalkContext, Walks.MayWalk, Walks.WalkFields, Passes.next_of, Steps.HasFound, Changes.HasNoRoom, Changes.NeedsSplit, Changes.page_of, declared.pass.Pass.Pass, declared.pass.Phase.Phase}
use Rattle.mlt_tx_operation.specs.{declared.answer.StepAnswer.StepAnswer, Answers.HasToRestart, Walking.IsThere, Walking.IsWalking, Walking.WalkingFields, Walking.steps_of_walk}
use Rattle.mlt_tx_two_records.specs.Performing.{AsksToAdd}

-- what is found is what the inverse needs, where something is to be taken back: the record, or the ghost
abbrev pub IsThereFor : Request → WalkContext → WalkFields → View → Option ℕ → Type 0
IsThereFor (Do op) context walk view found = Unit {0}
IsThereFor (TakeBack done) context walk view found = IsThere context walk view (inverse_of done) found

-- The walk has found this, and the reply is not known yet.
pub record MayDecide (context : WalkContext) (m : LocalState) (o : WalkingFields) (found : Option ℕ) : Type 0 where
  pub walks : MayWalk context m o.walk
  pub alone : size_key_of o.request ≡ None
  pub target : (o.walk.key, o.walk.mode) ≡ target_of o.request
  pub at_bucket : HasFound o.walk.phase found
  pub untold : o.reply ≡ None
  pub there : IsThereFor o.request context o.walk (view_of m) found

-- It is told its reply, and what it changes is written: its next step is its end.
pub record Finishes (context : WalkContext) (old new : LocalState) (before after : WalkingFields) : Type 0 where
  pub leaves : Leaves old new
  pub writes : WritesAtMost old new (page_of before.walk.phase)
  pub request : after.request ≡ before.request
  pub in_pass : after.walk.pass ≡ before.walk.pass
  pub operates : IsWalking context after (view_of new)
  pub last : steps_of_walk context.root after.walk (view_of new) ≡ 1

-- The bucket is to be split in this pass.
pub record SplitsInPass (context : WalkContext) (old new : LocalState) (before after : WalkingFields) : Type 0 where
  pub stays : new ≡ old
  pub request : after.request ≡ before.request
  pub in_pass : after.walk.pass ≡ before.walk.pass
  pub operates : IsWalking context after (view_of new)
  pub later : before.walk.pass ≡ Pass.First → ⊥
  pub absent : HasFound before.walk.phase None
  pub value : ℕ
  pub needs : NeedsSplit context new before.walk after.walk value

-- Another pass is to split it: this one is rolled back, and that one begins.
pub record BeginsAgain (context : WalkContext) (old new : LocalState) (before after : WalkingFields) : Type 0 where
  pub back : IsRolledBack old new
  pub request : after.request ≡ before.request
  pub untold : (before.reply ≡ None) × (after.reply ≡ None)
  pub operates : IsWalking context after (view_of new)
  pub absent : HasFound before.walk.phase None
  pub adds : (value : ℕ) × AsksToAdd before.request value
  pub full : WalkFields
  pub restarts : HasToRestart context old before.walk full
  pub again : after.walk ≡ record full { pass = next_of full.phase; phase = Phase.Start; split = None }

-- There is no room at any depth.
pub record FindsNoRoom (context : WalkContext) (old new : LocalState) (before : WalkingFields) : Type 0 where
  pub back : IsRolledBack old new
  pub later : before.walk.pass ≡ Pass.First → ⊥
  pub absent : HasFound before.walk.phase None
  pub adds : (value : ℕ) × AsksToAdd before.request value
  pub walk : WalkFields
  pub none : HasNoRoom context old before.walk walk

abbrev pub TellsAtBucket : WalkContext → LocalState → LocalState → WalkingFields → WalkingFields → StepAnswer
    → Type 0
TellsAtBucket context old new before after StepAnswer.Going =
    Finishes context old new before after ⊎ SplitsInPass context old new before after
    ⊎ BeginsAgain context old new before after
TellsAtBucket context old new before after (StepAnswer.Refused Refusal.NoRoom) =
    FindsNoRoom context old new before
TellsAtBucket context old new before after other = ⊥
