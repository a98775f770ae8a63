-- How many steps an operation takes, and an inverse
use Rattle.std.specs.Prelude.{ℕ, ◌≡◌, ◌<◌, ◌≤◌, ◌+◌, ◌-◌, ◌*◌, ◌⊎◌, List, [], ◌∷◌, ◌++◌, None, IsSome, true}
use Rattle.mlt_object_kinds.specs.declared.operation.{ObjOp.ObjOp, ObjReply.ObjReply}
use Rattle.mlt_object_base.specs.{declared.request.Request.Request, declared.request.Request.TheVariants.Do, Effects.inverse_of}
use Rattle.mlt_hash_access.specs.{LocalStates.local, Views.View}
use Rattle.mlt_hash.specs.{StepsLeft.bucket_depth, StepsLeft.directory_depth, Walks.WalkContext, Walks.WalkFields, declared.pass.Pass.Pass, declared.pass.Pass.TheVariants.First, declared.pass.Pass.TheVariants.Narrow, declared.pass.Pass.TheVariants.Wide, declared.pass.Phase.Phase}
use Rattle.mlt_tx_operation.specs.{Answers.PutsBehindSplits, Answers.Restarts, Answers.SplitsFromHere, Operating.OperationFields, Operating.on_one, Walking.WalkingFields, Walking.walk_for, Walking.walking}
use Rattle.mlt_event.specs.declared.answer.Answer.{Answer}
use Rattle.mlt_tx.specs.declared.transaction.{At.At, Transaction.Transaction}
use Rattle.mlt_tx_step_counts.specs.Extra.{extra_of_splits}
use Rattle.mlt_tx_step_counts.specs.OwnSteps.{GoesThen, GoesToTurn, GoesUpTo, OwnStep, answers_of, context_at, view_in}

-- An operation on one record that has taken no step of this pass: one that was called, or told Blocked, has taken none of its
-- first.
abbrev pub started_in : Request → Pass → OperationFields
started_in request next = on_one (walking request None (record (walk_for request) { pass = next }))

-- it is told Done or Blocked
abbrev pub IsDoneOrBlocked : Answer → Type 0
IsDoneOrBlocked (Answer.Done reply) = Unit {0}
IsDoneOrBlocked (Answer.Blocked by) = Unit {0}
IsDoneOrBlocked other = ⊥

-- it is refused
abbrev pub IsRefusal : Answer → Type 0
IsRefusal (Answer.Refused reason) = Unit {0}
IsRefusal other = ⊥

-- one operation is taken back, and perhaps it was the last
abbrev pub IsTakenBack : Answer → Type 0
IsTakenBack Answer.Undone = Unit {0}
IsTakenBack Answer.Aborted = Unit {0}
IsTakenBack other = ⊥

-- which pass may follow this one
abbrev pub MayFollow : Pass → Pass → Type 0
MayFollow First next = (next ≡ Narrow) ⊎ (next ≡ Wide)
MayFollow Narrow next = next ≡ Wide
MayFollow Wide next = ⊥

-- An addition finds no room in its bucket in this pass. All is rolled back, and another pass begins, to split the bucket; of
-- that pass and the steps behind this is so.
pub record FindsNoRoom (context : WalkContext) (op : ObjOp) (in_pass : Pass)
    (Then : Pass → List OwnStep → Type 0) (before : Transaction) (step : OwnStep)
    (back : List OwnStep) : Type 0 where
  pub o : OperationFields
  pub pending : before.at ≡ At.Pending o
  pub next : Pass
  pub follows : MayFollow in_pass next
  pub begins : step.after.at ≡ At.Pending (started_in (Do op) next)
  pub restarts : Restarts (context_at context step) (local before.subtx step.old.pages)
      (local step.after.subtx step.new.pages) o (started_in (Do op) next)
  pub later : Then next back

-- The bucket is of depth l, in a directory of depth g, and has room once it is split down to depth d.
pub record IsToSplit (context : WalkContext) (seen : View) (walk : WalkFields) (l g d : ℕ) : Type 0 where
  pub value : ℕ
  pub bucket : ℕ
  pub phase : walk.phase ≡ Phase.Adding value bucket d true
  pub depth : bucket_depth seen bucket ≡ l
  pub directory : directory_depth seen context.root ≡ g
  pub deeper : l < d
  pub most : d ≤ context.max_depth

-- At this step the record is put, in a bucket of depth l: each split has made it one deeper. Done or Blocked comes next.
pub record PutsRecord (l : ℕ) (before : Transaction) (step : OwnStep) (back : List OwnStep)
    : Type 0 where
  pub o : WalkingFields
  pub o' : WalkingFields
  pub pending : before.at ≡ At.Pending (on_one o)
  pub still : step.after.at ≡ At.Pending (on_one o')
  pub puts : PutsBehindSplits o.walk o'.walk
  pub depth : bucket_depth (view_in before step.old) puts.bucket ≡ l
  pub ends : GoesThen 0 IsDoneOrBlocked (answers_of back)

-- The bucket of depth l, in a directory of depth g, is split k times: in 3 * k + c steps, told Going, and so at the step that
-- puts the record, of which this is so.
pub record SplitsAndPuts (context : WalkContext) (l g d : ℕ)
    (Puts : ℕ → Transaction → OwnStep → List OwnStep → Type 0) (back : List OwnStep) : Type 0 where
  pub k : ℕ
  pub some : 1 ≤ k
  pub few : l + k ≤ d
  pub puts : GoesToTurn context (1 + 3 * k + extra_of_splits k l g) (Puts (l + k)) back

-- So it is; or it is refused before, told Going so long.
abbrev pub SplitsAndPutsOrNot : WalkContext → ℕ → ℕ → ℕ
    → (ℕ → Transaction → OwnStep → List OwnStep → Type 0) → List OwnStep → Type 0
SplitsAndPutsOrNot context l g d Puts back =
    SplitsAndPuts context l g d Puts back
    ⊎ GoesUpTo (1 + 3 * (d - l) + extra_of_splits (d - l) l g) IsRefusal (answers_of back)

-- An addition finds no room in its bucket, and splits it in this pass. With k splits made, and the three steps to the bucket,
-- Done or Blocked comes at step 5 + 3 * k + c; or it is refused before, told Going so long.
pub record BeginsSplits (context : WalkContext) (before : Transaction) (step : OwnStep)
    (back : List OwnStep) : Type 0 where
  pub o : WalkingFields
  pub o' : WalkingFields
  pub pending : before.at ≡ At.Pending (on_one o)
  pub still : step.after.at ≡ At.Pending (on_one o')
  pub splits : SplitsFromHere (context_at context step) (local before.subtx step.old.pages)
      (local step.after.subtx step.new.pages) (on_one o) (on_one o')
  pub l : ℕ
  pub g : ℕ
  pub d : ℕ
  pub plan : IsToSplit context (view_in step.after step.new) o'.walk l g d
  pub ends : SplitsAndPutsOrNot context l g d PutsRecord back

-- A pass that may split is told Done or Blocked at its fourth step, and Going at the three before
-- it; or it is refused earlier; or it splits k times, and that comes at step 5 + 3 * k + c.
abbrev pub TakesLaterPass : WalkContext → List OwnStep → Type 0
TakesLaterPass context steps =
    GoesThen 3 IsDoneOrBlocked (answers_of steps)
    ⊎ GoesUpTo 3 IsRefusal (answers_of steps)
    ⊎ GoesToTurn context 3 (BeginsSplits context) steps

-- A narrow pass may also be given up, for a wide one: it is told Going at three steps.
abbrev pub TakesNarrowPass : WalkContext → ObjOp → List OwnStep → Type 0
TakesNarrowPass context op steps =
    TakesLaterPass context steps
    ⊎ GoesToTurn context 3
    (FindsNoRoom context op Narrow (λ next back. TakesLaterPass context back)) steps

-- a pass that follows a first one
abbrev pub TakesNextPass : WalkContext → ObjOp → Pass → List OwnStep → Type 0
TakesNextPass context op First steps = ⊥
TakesNextPass context op Narrow steps = TakesNarrowPass context op steps
TakesNextPass context op Wide steps = TakesLaterPass context steps

-- A first pass is told Going at three steps, and Done or Blocked at the fourth; or it is an
-- addition that finds no room, told Going at its third step too, and the next pass follows.
abbrev pub TakesFirstPass : WalkContext → ObjOp → List OwnStep → Type 0
TakesFirstPass context op steps =
    GoesThen 3 IsDoneOrBlocked (answers_of steps)
    ⊎ GoesToTurn context 3 (FindsNoRoom context op First (TakesNextPass context op)) steps

-- An operation of this transaction is to be taken back: its inverse has not taken a step.
pub record IsToTakeBack (t : Transaction) (last : ObjOp × ObjReply) : Type 0 where
  pub undoing : t.at ≡ At.Undoing None
  pub front : List (ObjOp × ObjReply)
  pub entries : t.undo.entries ≡ front ++ last ∷ []

-- An operation on one record is taken back at the fourth step, told Going at the three before it;
-- or at the first step, where it has no inverse.
pub record TakesBackInFour (last : ObjOp × ObjReply) (steps : List OwnStep) : Type 0 where
  pub inverse : IsSome (inverse_of last) → GoesThen 3 IsTakenBack (answers_of steps)
  pub none : inverse_of last ≡ None → GoesThen 0 IsTakenBack (answers_of steps)
