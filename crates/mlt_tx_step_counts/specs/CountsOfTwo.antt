-- How many steps an operation on two records takes, and an inverse: where an element is added or removed, and the size of its
-- set is changed
use Rattle.std.specs.Prelude.{ℕ, ◌≡◌, ◌≤◌, ◌⊎◌, List, Option, None, Some, false}
use Rattle.mlt_object_kinds.specs.declared.operation.{ObjOp.ObjOp, ObjReply.ObjReply}
use Rattle.mlt_object_base.specs.{declared.request.Request.Request, declared.request.Request.TheVariants.Do, declared.request.Request.TheVariants.TakeBack, Requests.size_key_of, Requests.target_of}
use Rattle.mlt_hash_access.specs.LocalStates.{LocalState, local}
use Rattle.mlt_hash_pair.specs.Pairs.{PairFields}
use Rattle.mlt_hash.specs.{Steps.steps_to_bucket, StepsLeft.bucket_depth, declared.pass.Phase.Phase}
use Rattle.mlt_hash.specs.Walks.{WalkContext, Before, WalkFields, context_after, one_key}
use Rattle.mlt_tx_two_records.specs.{declared.two_records.TwoRecordWalk.TwoRecordWalk, declared.two_records.TwoRecordWalk.TheVariants.First, declared.two_records.TwoRecordWalk.TheVariants.Owing, declared.two_records.TwoRecordWalk.TheVariants.Wide, declared.two_records.WideStage.WideStage, FirstPass.FindsNoRoom, WalkSteps.BeginsToSplit, WidePass.HasChangedNow, WidePass.wide_to}
use Rattle.mlt_tx_operation.specs.{declared.access_path.AccessPath.TheVariants.Two, Operating.OperationFields}
use Rattle.mlt_tx.specs.declared.transaction.{At.At, Transaction.Transaction}
use Rattle.mlt_tx_step_counts.specs.Counts.{IsDoneOrBlocked, IsRefusal, IsTakenBack, IsToSplit, SplitsAndPutsOrNot, TakesBackInFour, TakesFirstPass}
use Rattle.mlt_tx_step_counts.specs.OwnSteps.{GoesBelow, GoesThen, GoesToTurn, GoesUpTo, OwnStep, answers_of, context_at, view_in}

-- an operation on two records that has taken no step of its wide pass
abbrev pub started_wide : Request → OperationFields
started_wide request = record {
  request = request;
  reply = None;
  access_path = Two (Wide WideStage.Own (wide_to (target_of request).0));
}

-- an operation on two records is pending, and is here
abbrev pub IsPendingAt : TwoRecordWalk → At → Type 0
IsPendingAt two_records (At.Pending o) = o.access_path ≡ Two two_records
IsPendingAt two_records other = ⊥

-- ---- the wide pass

-- why a bucket has to be split, on the way to its own key, or to that of the size over what was written before
abbrev pub BeginsToSplitOn : WideStage → WalkContext → LocalState → WalkFields → WalkFields → Type 0
BeginsToSplitOn WideStage.Own context new before after = BeginsToSplit (one_key context) new before after
BeginsToSplitOn WideStage.Size context new before after =
    (since : Before) × BeginsToSplit (context_after since context) new before after

-- At this step the record of a key is put behind splits, in a bucket of depth l: each split has made it one deeper. Of the steps
-- behind this is so.
pub record PutsOn (on : WideStage) (Then : List OwnStep → Type 0) (l : ℕ) (before : Transaction)
    (step : OwnStep) (back : List OwnStep) : Type 0 where
  pub walk : WalkFields
  pub is_at : IsPendingAt (Wide on walk) before.at
  pub value : ℕ
  pub bucket : ℕ
  pub room_depth : ℕ
  pub was : walk.phase ≡ Phase.Adding value bucket room_depth false
  pub depth : bucket_depth (view_in before step.old) bucket ≡ l
  pub later : Then back

-- The bucket of a key has no room, and is split in this pass, k times: in 3 * k + c steps, told Going, and so at the step that puts
-- the record. Or it is refused before that.
pub record BeginsSplitsOn (context : WalkContext) (on : WideStage) (Then : List OwnStep → Type 0)
    (before : Transaction) (step : OwnStep) (back : List OwnStep) : Type 0 where
  pub walk : WalkFields
  pub after : WalkFields
  pub is_at : IsPendingAt (Wide on walk) before.at
  pub still : IsPendingAt (Wide on after) step.after.at
  pub splits : BeginsToSplitOn on (context_at context step) (local step.after.subtx step.new.pages)
      walk after
  pub l : ℕ
  pub g : ℕ
  pub d : ℕ
  pub plan : IsToSplit context (view_in step.after step.new) after l g d
  pub ends : SplitsAndPutsOrNot context l g d (PutsOn on Then) back

-- On to the key of the size: two steps to its bucket, at the second of which its record is changed, told Going; and then Done or
-- Blocked. Or it is refused within two steps. Or that bucket is split, and Done or Blocked comes behind that.
abbrev pub TakesSizesWideStage : WalkContext → List OwnStep → Type 0
TakesSizesWideStage context steps =
    GoesThen 2 IsDoneOrBlocked (answers_of steps)
    ⊎ GoesUpTo 2 IsRefusal (answers_of steps)
    ⊎ GoesToTurn context 2
    (BeginsSplitsOn context WideStage.Size (λ back. GoesThen 0 IsDoneOrBlocked (answers_of back))) steps

-- At this step the record of its own key is put in its bucket, and the pass goes on to the key of the size. Of the steps behind
-- this is so.
pub record GoesOver (Then : List OwnStep → Type 0) (before : Transaction) (step : OwnStep)
    (back : List OwnStep) : Type 0 where
  pub walk : WalkFields
  pub after : WalkFields
  pub is_at : IsPendingAt (Wide WideStage.Own walk) before.at
  pub over : IsPendingAt (Wide WideStage.Size after) step.after.at
  pub changed : HasChangedNow walk
  pub steps : steps_to_bucket after.phase ≡ 2
  pub later : Then back

-- A wide pass is told Done or Blocked at step 4, where the record of its own key is there; at 6,
-- where nothing is split; at 7 + 3 * k + c, where one bucket is, and 8 + 3 * k + c, where both are,
-- k times in all; and Going before. Or it is refused before.
abbrev pub TakesWidePassOfTwo : WalkContext → List OwnStep → Type 0
TakesWidePassOfTwo context steps =
    GoesThen 3 IsDoneOrBlocked (answers_of steps)
    ⊎ GoesUpTo 3 IsRefusal (answers_of steps)
    ⊎ GoesToTurn context 3 (GoesOver (TakesSizesWideStage context)) steps
    ⊎ GoesToTurn context 3 (BeginsSplitsOn context WideStage.Own (TakesSizesWideStage context)) steps

-- ---- the first pass

-- The later bucket is written, and the change of the earlier one is left: it is written in a step more, told Going, and Done or
-- Blocked comes next.
pub record OwesEarlier (step : OwnStep) (back : List OwnStep) : Type 0 where
  pub pair : PairFields
  pub reply : ObjReply
  pub still : IsPendingAt (Owing pair reply) step.after.at
  pub ends : GoesThen 1 IsDoneOrBlocked (answers_of back)

-- A bucket has no room. All is rolled back, and a wide pass begins; of its steps this is so.
pub record FindsNoRoomForTwo (context : WalkContext) (op : ObjOp) (Then : List OwnStep → Type 0)
    (pair : PairFields) (before : Transaction) (step : OwnStep) (back : List OwnStep) : Type 0 where
  pub begins : step.after.at ≡ At.Pending (started_wide (Do op))
  pub none : FindsNoRoom (context_at context step) (local before.subtx step.old.pages)
      (local step.after.subtx step.new.pages) (Do op) pair
  pub later : Then back

-- At this step a first pass has both buckets. All that it changes is written, and Done or Blocked comes next; or the change of the
-- earlier bucket is left; or there is no room.
pub record FindsBoth (context : WalkContext) (op : ObjOp) (Then : List OwnStep → Type 0)
    (before : Transaction) (step : OwnStep) (back : List OwnStep) : Type 0 where
  pub pair : PairFields
  pub is_at : IsPendingAt (First pair) before.at
  pub ends : GoesThen 0 IsDoneOrBlocked (answers_of back) ⊎ OwesEarlier step back
      ⊎ FindsNoRoomForTwo context op Then pair before step back

-- A first pass has both buckets at its third to fifth step, told Going so long. So Done or Blocked
-- comes at its fourth to seventh step; or it finds no room at its third to fifth.
abbrev pub TakesFirstPassOfTwo : WalkContext → ObjOp → List OwnStep → Type 0
TakesFirstPassOfTwo context op steps =
    GoesBelow 5 (answers_of steps)
    ⊎ ((n : ℕ) × (3 ≤ n) × (n ≤ 5)
    × GoesToTurn context n (FindsBoth context op (TakesWidePassOfTwo context)) steps)

-- ---- an inverse

-- What was done to two records is taken back at the fourth to seventh step, told Going at those before it.
abbrev pub TakesBackInSeven : List OwnStep → Type 0
TakesBackInSeven steps =
    (n : ℕ) × (3 ≤ n) × (n ≤ 6) × GoesThen n IsTakenBack (answers_of steps)

-- ---- on one record or on two

-- An operation takes a first pass, and those that may follow it: by the key of the size that it changes, if it has one.
abbrev pub TakesPassBy : Option ℕ → WalkContext → ObjOp → List OwnStep → Type 0
TakesPassBy None context op steps = TakesFirstPass context op steps
TakesPassBy (Some size) context op steps = TakesFirstPassOfTwo context op steps

abbrev pub TakesPassOf : WalkContext → ObjOp → List OwnStep → Type 0
TakesPassOf context op steps = TakesPassBy (size_key_of (Do op)) context op steps

-- It is taken back.
abbrev pub TakesBackBy : Option ℕ → ObjOp × ObjReply → List OwnStep → Type 0
TakesBackBy None last steps = TakesBackInFour last steps
TakesBackBy (Some size) last steps = TakesBackInSeven steps

-- An operation is taken back: at its fourth step or its first where it is on one record, and at its
-- fourth to seventh where it is on two.
abbrev pub TakesBackOf : ObjOp × ObjReply → List OwnStep → Type 0
TakesBackOf last steps = TakesBackBy (size_key_of (TakeBack last)) last steps
