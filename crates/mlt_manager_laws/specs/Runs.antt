-- What the steps of one transaction are told in a run of a manager
use Rattle.std.specs.Prelude.{ℕ, ◌≡◌, ◌≢◌, ◌⊎◌, nat_eq, List, [], ◌∷◌, ◌++◌, Some, if◌then◌else◌}
use Rattle.std.specs.FinMap as map
use Rattle.mlt_types.specs.declared.limits.Limits.{Limits}
use Rattle.mlt_object_kinds.specs.declared.operation.ObjOp.{ObjOp}
use Rattle.mlt_hash_access.specs.Views.{View}
use Rattle.mlt_hash.specs.Walks.{WalkContext, context_by}
use Rattle.mlt_event.specs.declared.{answer.Answer.Answer, event.Event.Event, told.Told.Told}
use Rattle.mlt_tx.specs.declared.transaction.Transaction.{Transaction}
use Rattle.mlt_tx_step_counts.specs.CountsOfTwo.{TakesPassOf}
use Rattle.mlt_tx_step_counts.specs.OwnSteps.{AreOwnSteps, OwnStep, answers_of, view_in, with_answer}
use Rattle.mlt_manager.specs.{Answers.IsOpenAt, Answers.counted, Bases.IsPendingWith, Events.IsRun, Events.Meets, Managers.ManagerFields, Openings.IsNew, Promises.KeepsPromises}

-- The event is a step of this transaction, or one of another, or one begins.
abbrev pub IsStepOrAnothers : ℕ → Event → Type 0
IsStepOrAnothers tx Event.Begin = Unit {0}
IsStepOrAnothers tx (Event.Step other) = Unit {0}
IsStepOrAnothers tx (Event.Call other op) = tx ≢ other
IsStepOrAnothers tx (Event.Cancel other) = tx ≢ other
IsStepOrAnothers tx (Event.Commit other) = tx ≢ other
IsStepOrAnothers tx (Event.Abort other) = tx ≢ other
IsStepOrAnothers tx (Event.Whole other op) = tx ≢ other
IsStepOrAnothers tx (Event.WholeUndo other) = tx ≢ other

-- this transaction takes steps, and nothing else is asked of it
abbrev pub OnlySteps : ℕ → List Event → Type 0
OnlySteps tx [] = Unit {0}
OnlySteps tx (event ∷ events) = IsStepOrAnothers tx event × OnlySteps tx events

-- an answer before these, unless it says to wait, and none behind the last of an abort
abbrev pub up_to_end : Answer → List Answer → List Answer
up_to_end Answer.Aborted more = Answer.Aborted ∷ []
up_to_end told more = with_answer told more

-- what an event tells a step of this transaction, before what is told later
abbrev pub with_told : ℕ → Event → Told → List Answer → List Answer
with_told tx (Event.Step other) (Told.Answered answer) more =
    if nat_eq tx other then up_to_end answer more else more
with_told tx event told more = more

-- What the steps of this transaction are told in a run, in order up to the end of its abort, those aside that wait.
abbrev pub answers_to : ℕ → List Event → List Told → List Answer
answers_to tx [] tolds = []
answers_to tx (event ∷ events) [] = []
answers_to tx (event ∷ events) (told ∷ tolds) =
    with_told tx event told (answers_to tx events tolds)

-- a manager to which events lead from a new one
pub record IsReached {P : Type 0} (bits_of : P → ℕ → ℕ) (m : ManagerFields P) : Type 0 where
  pub limits : Limits
  pub pseudo : P
  pub opening : ManagerFields P
  pub is_new : IsNew opening limits pseudo
  pub events : List Event
  pub tolds : List Told
  pub run : IsRun bits_of opening events tolds m

-- A run is cut behind some of its events: these lead to a manager that keeps its promises, and from it the others lead
-- on.
pub record IsCutBehind {P : Type 0} (bits_of : P → ℕ → ℕ) (opening new : ManagerFields P)
    (before later : List Event) (tolds : List Told) : Type 0 where
  pub told_before : List Told
  pub told_later : List Told
  pub told : tolds ≡ told_before ++ told_later
  pub between : ManagerFields P
  pub leads : IsRun bits_of opening before told_before between
  pub goes_on : IsRun bits_of between later told_later new
  pub promises : KeepsPromises bits_of between

-- The steps of a transaction in a run are steps of its own, between which others leave what it sees.
pub record HasOwnSteps (context : WalkContext) (t : Transaction) (seen : View) (tx : ℕ)
    (events : List Event) (tolds : List Told) : Type 0 where
  pub steps : List OwnStep
  pub own : AreOwnSteps context t seen steps
  pub answers : answers_of steps ≡ answers_to tx events tolds

-- The steps of a transaction in a run are steps of its own, of which this is so.
abbrev pub TakesOwnSteps : WalkContext → Transaction → View → ℕ → List Event → List Told
    → (List OwnStep → Type 0) → Type 0
TakesOwnSteps context t seen tx events tolds Takes =
    (has : HasOwnSteps context t seen tx events tolds) × Takes has.steps

-- An event behind which a first pass of this operation is to begin: the transaction is called with
-- it; or its step is told Blocked, and the operation is still pending.
abbrev pub BeginsFirstPass : {P : Type 0} → (P → ℕ → ℕ) → ManagerFields P → ManagerFields P → ℕ
    → ObjOp → Type 0
BeginsFirstPass bits_of old new tx op =
    Meets bits_of (Event.Call tx op) Told.Called (counted old) new
    ⊎ ((by : ℕ) × IsOpenAt new.txs tx (IsPendingWith op)
    × Meets bits_of (Event.Step tx) (Told.Answered (Answer.Blocked by)) (counted old) new)

-- The transaction of this number is open, and its steps are those of a first pass of this operation.
pub record TakesPassInRun {P : Type 0} (bits_of : P → ℕ → ℕ) (m : ManagerFields P) (tx : ℕ)
    (op : ObjOp) (events : List Event) (tolds : List Told) : Type 0 where
  pub t : Transaction
  pub there : map.get m.txs tx ≡ Some t
  pub takes : TakesOwnSteps (context_by bits_of m.root m.active tx) t (view_in t m.shared) tx
      events tolds (TakesPassOf (context_by bits_of m.root m.active tx) op)
