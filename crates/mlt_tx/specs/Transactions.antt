-- What the events of one transaction ask and tell
use Rattle.std.specs.Prelude.{ℕ, ◌≡◌, ◌≤◌, ◌+◌, Option, Some}
use Rattle.mlt_object_kinds.specs.{declared.operation.ObjOp.ObjOp, Operations.cell_of}
use Rattle.mlt_object_base.specs.{declared.request.Request.TheVariants.Do, Undo.Undo}
use Rattle.mlt_object_locks.specs.Locks.{SameReservations, reservation_of}
use Rattle.mlt_page_subtx.specs.Images.{Running}
use Rattle.mlt_hash.specs.Walks.{WalkContext}
use Rattle.mlt_tx_operation.specs.Operating.{OperationFields, started_for}
use Rattle.mlt_event.specs.declared.answer.Answer.{Answer}
use Rattle.mlt_tx.specs.{declared.shared.SharedState.SharedState, declared.transaction.At.At, declared.transaction.Transaction.Transaction, Endings.RollsBackSubtx, Endings.TxState, Steps.MayStepBack, Steps.MayStepOn, Steps.TellsOfBack, Steps.TellsOfPending}

-- where a transaction works
abbrev pub tx_state_of : Transaction → SharedState → TxState
tx_state_of t shared = record { running = t.subtx; undo = t.undo; shared = shared }

-- an operation is pending
abbrev pub IsPending : At → Type 0
IsPending (At.Pending o) = Unit {0}
IsPending other = ⊥

-- its abort has begun
abbrev pub IsUndoing : At → Type 0
IsUndoing (At.Undoing inverting) = Unit {0}
IsUndoing other = ⊥

-- a transaction of these parts
abbrev pub transaction_at : Running → Undo → At → Transaction
transaction_at subtx undo at = record { subtx = subtx; undo = undo; at = at }

-- the history gives up room for this many items, and all else stays
pub record GivesUpRoom (count : ℕ) (old new : SharedState) : Type 0 where
  pub pages : new.pages ≡ old.pages
  pub objects : new.objects ≡ old.objects
  pub items : new.history.items ≡ old.history.items
  pub room : new.history.room + count ≡ old.history.room

-- what is pending after an answer
abbrev pub pending_after : Answer → OperationFields → At
pending_after (Answer.Done reply) o = At.Idle
pending_after (Answer.Refused reason) o = At.Idle
pending_after other o = At.Pending o

-- who is refused gives up the room that its operation had
abbrev pub LeavesRoom : Answer → SharedState → SharedState → Type 0
LeavesRoom (Answer.Refused reason) between new = GivesUpRoom 2 between new
LeavesRoom other between new = new ≡ between

-- the pending operation took a step
pub record StepsPending (context : WalkContext) (o : OperationFields) (before after : Transaction)
    (old new : SharedState) (told : Answer) : Type 0 where
  pub next : OperationFields
  pub between : SharedState
  pub tells : TellsOfPending context o next
      (tx_state_of before old) (tx_state_of after between) told
  pub now_at : after.at ≡ pending_after told next
  pub leaves : LeavesRoom told between new

-- the abort took a step
pub record StepsBack (context : WalkContext) (inverting : Option OperationFields)
    (before after : Transaction) (old new : SharedState) (told : Answer) : Type 0 where
  pub next : Option OperationFields
  pub tells : TellsOfBack context inverting next
      (tx_state_of before old) (tx_state_of after new) told
  pub now_at : after.at ≡ At.Undoing next

-- what a step asks, by what the transaction is at
abbrev pub MayStepAt : At → WalkContext → Transaction → SharedState → Type 0
MayStepAt At.Idle context t shared = ⊥
MayStepAt (At.Pending o) context t shared =
    MayStepOn context o t.subtx t.undo shared × (2 ≤ shared.history.room)
MayStepAt (At.Undoing inverting) context t shared =
    MayStepBack context inverting t.subtx t.undo shared

-- What a step asks. Of a pending operation: that it may go on, or end. Of an abort: that something
-- is left, which the inverse takes back that runs, or is to. Where the transaction is at nothing
-- there is none.
abbrev pub MayStepIn : WalkContext → Transaction → SharedState → Type 0
MayStepIn context t shared = MayStepAt t.at context t shared

-- what a step tells
abbrev pub TellsAt : At → WalkContext → Transaction → Transaction → SharedState → SharedState → Answer → Type 0
TellsAt At.Idle context before after old new told = ⊥
TellsAt (At.Pending o) context before after old new told =
    StepsPending context o before after old new told
TellsAt (At.Undoing inverting) context before after old new told =
    StepsBack context inverting before after old new told

-- what a step tells, by what the transaction is at: a pending operation, or its abort
abbrev pub TellsOfTransaction : WalkContext → Transaction → Transaction → SharedState → SharedState → Answer
    → Type 0
TellsOfTransaction context before after old new told = TellsAt before.at context before after old new told

-- Room is made, for the undo entry and the object lock of one operation. The transaction stays what it was, but for what
-- it is at; and so do the pages, what is held, the items of the history, and what others reserved.
pub record MakesRoom (before after : Transaction) (old new : SharedState) : Type 0 where
  pub subtx_kept : after.subtx ≡ before.subtx
  pub entries : after.undo.entries ≡ before.undo.entries
  pub pages : new.pages ≡ old.pages
  pub held : new.objects.held ≡ old.objects.held
  pub others : SameReservations old.objects.reserved new.objects.reserved before.subtx.tx
  pub items : new.history.items ≡ old.history.items

-- an operation is pending, and has room for all that its end, and its being taken back, add
pub record TellsOfCall (op : ObjOp) (before after : Transaction) (old new : SharedState) : Type 0 where
  pub makes : MakesRoom before after old new
  pub pending : after.at ≡ At.Pending (started_for (Do op))
  pub spare : 1 ≤ after.undo.spare
  pub reserved : reservation_of new.objects.reserved before.subtx.tx ≡ Some (cell_of op)
  pub room : new.history.room ≡ old.history.room + 2

-- no operation is pending, and the history has the room that it had
pub record IsNotCalled (before after : Transaction) (old new : SharedState) : Type 0 where
  pub makes : MakesRoom before after old new
  pub idle : after.at ≡ before.at
  pub room : new.history.room ≡ old.history.room

-- a pending operation is dropped
pub record TellsOfCancel (before after : Transaction) (old new : SharedState) : Type 0 where
  pub between : SharedState
  pub back : RollsBackSubtx before.subtx after.subtx old between
  pub objects : between.objects ≡ old.objects
  pub history : between.history ≡ old.history
  pub undo_kept : after.undo ≡ before.undo
  pub idle : after.at ≡ At.Idle
  pub room : GivesUpRoom 2 between new
