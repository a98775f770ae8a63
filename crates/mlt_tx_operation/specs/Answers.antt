-- What a step of an operation answers
use Rattle.std.specs.Prelude.{ℕ, ◌≡◌, ◌<◌, ◌⊎◌, false, Option, None, Some}
use Rattle.mlt_types.specs.declared.{mode.Mode.Mode, refusal.Refusal.Refusal}
use Rattle.mlt_object_kinds.specs.declared.operation.ObjReply.{ObjReply}
use Rattle.mlt_object_base.specs.{declared.request.Request.Request, Requests.target_of}
use Rattle.mlt_page_locks.specs.Requests.{IsLowest, conflicts}
use Rattle.mlt_hash_access.specs.{LocalStates.LocalState, PageTurns.TakesTurn, PageTurns.TurnsBack, Views.View, Views.rebased, Views.view_of}
use Rattle.mlt_hash_pair.specs.Pairs.{mode_next, page_next}
use Rattle.mlt_hash.specs.Walks.{WalkContext, Before, WalkFields, context_after, one_key}
use Rattle.mlt_hash.specs.{Passes.next_of, Steps.steps_to_bucket, Changes.MustWiden, Changes.NeedsSplit, declared.pass.Change.Change, declared.pass.Pass.Pass, declared.pass.Phase.Phase}
use Rattle.mlt_tx_two_records.specs.{Answers.GoesOnBy, Answers.TellsLast, FirstPass.FindsNoRoom, Performing.AsksToAdd, WidePass.CauseAtOwn, WidePass.CauseAtSize, WidePass.HasPutOwn, WidePass.wide_to, declared.two_records.TwoRecordWalk.TwoRecordWalk, declared.two_records.TwoRecordWalk.TheVariants.First, declared.two_records.TwoRecordWalk.TheVariants.Owing, declared.two_records.TwoRecordWalk.TheVariants.Wide, declared.two_records.WideStage.WideStage}
use Rattle.mlt_tx_two_records.specs.WalkSteps.{AsksForAt, BeginsToSplit, GoesNearer, LacksPage, LacksRoom, ReachesBucket}
use Rattle.mlt_tx_operation.specs.{declared.answer.StepAnswer.StepAnswer, declared.access_path.AccessPath.AccessPath, declared.access_path.AccessPath.TheVariants.One, declared.access_path.AccessPath.TheVariants.Two, Operating.IsInFirst, Operating.IsOperating, Operating.OperationFields, Operating.steps_left}

-- ---- on one record

-- it had split its bucket, and puts its record, where there may be room before it is split as far as it was meant to be
pub record PutsBehindSplits (before after : WalkFields) : Type 0 where
  pub value : ℕ
  pub bucket : ℕ
  pub room_depth : ℕ
  pub was : before.phase ≡ Phase.Adding value bucket room_depth false
  pub is : after.phase ≡ Phase.Changed bucket (Change.Put value)

-- Its walk goes on within its pass, and never back from its bucket: one step nearer to its change; or it puts its record
-- behind splits, where there may be room early.
pub record WalkGoesOn (root : ℕ) (old new : View) (before after : WalkFields) : Type 0 where
  pub in_pass : after.pass ≡ before.pass
  pub goes : GoesNearer root old new before after ⊎ PutsBehindSplits before after

-- Its bucket has no room, and it is to be split in this pass.
pub record WalkBeginsToSplit (context : WalkContext) (new : LocalState) (before after : WalkFields) : Type 0 where
  pub in_pass : after.pass ≡ before.pass
  pub splits : BeginsToSplit context new before after

-- a first pass has found no room, or a narrow one that it has to be wide
abbrev pub HasToRestart : WalkContext → LocalState → WalkFields → WalkFields → Type 0
HasToRestart context m walk full =
    ((walk.pass ≡ Pass.First) × ((value : ℕ) × NeedsSplit context m walk full value))
    ⊎ MustWiden context m walk full

-- Its bucket has no room, and another pass is to split it, which begins.
pub record WalkRestarts (context : WalkContext) (mid : LocalState) (before after : WalkFields) : Type 0 where
  pub walk : WalkFields
  pub reaches : ReachesBucket context mid before walk
  pub full : WalkFields
  pub restarts : HasToRestart context mid walk full
  pub again : after ≡ record full { pass = next_of full.phase; phase = Phase.Start; split = None }

-- why it is refused: it lacks room or a page, or memory, to make one or to keep an image
abbrev pub CauseAtOne : Refusal → WalkContext → LocalState → LocalState → Request → WalkFields → Type 0
CauseAtOne Refusal.NoRoom context old mid request before =
    (((value : ℕ) × AsksToAdd request value) × LacksRoom context mid before)
    ⊎ LacksPage context old before
CauseAtOne Refusal.OutOfMemory context old mid request before =
    (steps_to_bucket before.phase ≡ 0) × (LacksPage context old before → ⊥)
CauseAtOne other context old mid request before = ⊥

-- ---- on one record, or on two

-- how it goes on, up to the step at which the reply is told
abbrev pub TwoRecordSteps : Option ObjReply → TwoRecordWalk → TwoRecordWalk → WalkContext → LocalState → LocalState → Request → Type 0
TwoRecordSteps None before after context old new request = GoesOnBy before after context old new request
TwoRecordSteps (Some reply) before after context old new request = TellsLast before after

abbrev pub StepsBy : AccessPath → AccessPath → WalkContext → LocalState → LocalState → Request → Option ObjReply → Type 0
StepsBy (One before) (One after) context old new request reply =
    WalkGoesOn context.root (view_of old) (view_of new) before after
StepsBy (Two before) (Two after) context old new request reply =
    TwoRecordSteps reply before after context old new request
StepsBy other other' context old new request reply = ⊥

-- It goes on in its pass, or tells its reply. Fewer steps are left.
pub record StepsOn (context : WalkContext) (old new : LocalState) (before after : OperationFields) : Type 0 where
  pub turn : TakesTurn old new
  pub request : after.request ≡ before.request
  pub operates : IsOperating context after (view_of new)
  pub in_first : IsInFirst before.access_path → IsInFirst after.access_path
  pub fewer : steps_left context.root after (view_of new) < steps_left context.root before (view_of old)
  pub how : StepsBy before.access_path after.access_path context old new before.request after.reply

-- One on one record begins to split its bucket, in a later pass than the first. How many steps are left is known from
-- here.
abbrev pub SplitsBy : AccessPath → AccessPath → WalkContext → LocalState → Type 0
SplitsBy (One before) (One after) context new = WalkBeginsToSplit context new before after
SplitsBy other other' context new = ⊥

pub record SplitsFromHere (context : WalkContext) (old new : LocalState) (before after : OperationFields)
    : Type 0 where
  pub turn : TakesTurn old new
  pub request : after.request ≡ before.request
  pub operates : IsOperating context after (view_of new)
  pub later : IsInFirst before.access_path → ⊥
  pub how : SplitsBy before.access_path after.access_path context new

-- A first pass to two records has found a bucket without room, and a wide one begins.
abbrev pub TwoRecordRestarts : TwoRecordWalk → TwoRecordWalk → WalkContext → LocalState → LocalState → Request → Type 0
TwoRecordRestarts (First pair) (Wide WideStage.Own walk) context old new request =
    FindsNoRoom context old new request pair × (walk ≡ wide_to (target_of request).0)
TwoRecordRestarts other other' context old new request = ⊥

abbrev pub RestartsBy : AccessPath → AccessPath → WalkContext → LocalState → LocalState → LocalState → Request → Type 0
RestartsBy (One before) (One after) context old mid new request = WalkRestarts context mid before after
RestartsBy (Two before) (Two after) context old mid new request =
    TwoRecordRestarts before after context old new request
RestartsBy other other' context old mid new request = ⊥

-- A bucket has no room for a record that is to be added, and another pass is to split it: this one is rolled back, and
-- that one begins. No reply is known.
pub record Restarts (context : WalkContext) (old new : LocalState) (before after : OperationFields) : Type 0 where
  pub back : TurnsBack old new
  pub request : after.request ≡ before.request
  pub untold : (before.reply ≡ None) × (after.reply ≡ None)
  pub operates : IsOperating context after (view_of new)
  pub adds : (value : ℕ) × AsksToAdd before.request value
  pub how : RestartsBy before.access_path after.access_path context old back.mid new before.request

-- the lock that its next step asks for: of which page, and in which mode; to the key of a size over what is written
abbrev pub TwoRecordAsksFor : TwoRecordWalk → WalkContext → View → Request → ℕ → Mode → Type 0
TwoRecordAsksFor (First pair) context view request page mode =
    (page ≡ page_next context.root pair) × (mode ≡ mode_next pair)
TwoRecordAsksFor (Owing pair reply) context view request page mode = ⊥
TwoRecordAsksFor (Wide WideStage.Own walk) context view request page mode =
    AsksForAt walk.phase (one_key context) view walk page mode
TwoRecordAsksFor (Wide WideStage.Size walk) context view request page mode =
    (since : Before) × HasPutOwn context request view since
    × AsksForAt walk.phase (context_after since context) (rebased since.written view) walk page mode

abbrev pub AsksFor : AccessPath → WalkContext → View → Request → ℕ → Mode → Type 0
AsksFor (One walk) context view request page mode = AsksForAt walk.phase context view walk page mode
AsksFor (Two two_records) context view request page mode = TwoRecordAsksFor two_records context view request page mode

-- It waits for a page, told the lowest transaction whose lock stands against its own. Nothing has changed.
pub record Waits (context : WalkContext) (old new : LocalState) (before after : OperationFields) (page by : ℕ)
    : Type 0 where
  pub mode : Mode
  pub asks : AsksFor before.access_path context (view_of old) before.request page mode
  pub lowest : IsLowest (conflicts old.locks old.running.tx page mode) by
  pub pages : new ≡ old
  pub stays : after ≡ before

-- why it is refused: on two records as on the one that it is at
abbrev pub CauseAtTwo : TwoRecordWalk → Refusal → WalkContext → LocalState → LocalState → Request → Type 0
CauseAtTwo (First pair) reason context old mid request = ⊥
CauseAtTwo (Owing pair reply) reason context old mid request = ⊥
CauseAtTwo (Wide WideStage.Own walk) reason context old mid request =
    CauseAtOwn reason (one_key context) old mid walk
CauseAtTwo (Wide WideStage.Size walk) reason context old mid request =
    (since : Before) × HasPutOwn context request (view_of old) since
    × CauseAtSize reason (context_after since context) old mid walk

abbrev pub CauseBy : AccessPath → Refusal → WalkContext → LocalState → LocalState → Request → Type 0
CauseBy (One walk) reason context old mid request = CauseAtOne reason context old mid request walk
CauseBy (Two two_records) reason context old mid request =
    CauseAtTwo two_records reason context old mid request

abbrev pub IsCauseOf : Refusal → WalkContext → LocalState → LocalState → OperationFields → Type 0
IsCauseOf reason context old mid before = CauseBy before.access_path reason context old mid before.request

-- It is refused, in a later pass than the first. All is rolled back.
pub record IsRefused (context : WalkContext) (old new : LocalState) (before : OperationFields) (reason : Refusal)
    : Type 0 where
  pub back : TurnsBack old new
  pub later : IsInFirst before.access_path → ⊥
  pub cause : IsCauseOf reason context old back.mid before

-- A step goes on in its pass, or tells its reply, or begins another pass where a bucket has no
-- room; or it waits, and nothing has changed; or it is refused, in a later pass than the first, and
-- all is rolled back.
abbrev pub TellsOfStep : WalkContext → LocalState → LocalState → OperationFields → OperationFields → StepAnswer
    → Type 0
TellsOfStep context old new before after StepAnswer.Going =
    StepsOn context old new before after ⊎ SplitsFromHere context old new before after
    ⊎ Restarts context old new before after
TellsOfStep context old new before after (StepAnswer.Waiting page by) =
    Waits context old new before after page by
TellsOfStep context old new before after (StepAnswer.Refused reason) =
    IsRefused context old new before reason
