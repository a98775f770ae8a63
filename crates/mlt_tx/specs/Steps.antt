-- What the steps of one transaction ask and tell
use Rattle.std.specs.Prelude.{ℕ, ◌≡◌, ◌≤◌, ◌+◌, List, [], ◌∷◌, ◌++◌, Option, None, Some, IsSome, filter}
use Rattle.mlt_object_kinds.specs.{declared.operation.ObjOp.ObjOp, declared.operation.ObjReply.ObjReply, Operations.cell_of}
use Rattle.mlt_object_base.specs.{declared.request.Request.TheVariants.Do, declared.request.Request.TheVariants.TakeBack, Effects.inverse_of, Undo.Undo}
use Rattle.mlt_page_subtx.specs.Images.{AreThere, Running}
use Rattle.mlt_object_locks.specs.Locks.{SameReservations, is_of_other, reservation_of}
use Rattle.mlt_hash_access.specs.LocalStates.{LocalState, local}
use Rattle.mlt_hash.specs.Walks.{WalkContext}
use Rattle.mlt_tx_operation.specs.{declared.answer.StepAnswer.StepAnswer, Answers.StepsOn, Answers.TellsOfStep, Answers.Waits, Operating.IsInFirst, Operating.MayOperate, Operating.OperationFields, Operating.started_for}
use Rattle.mlt_trace.specs.declared.item.TraceItem.{TraceItem}
use Rattle.mlt_event.specs.declared.answer.Answer.{Answer}
use Rattle.mlt_tx.specs.{declared.shared.SharedState.SharedState, Endings.EndsSubtx, Endings.TellsOfEnd, Endings.TxState}

-- the answer to a step, as its transaction gives it
abbrev pub answer_of : StepAnswer → Answer
answer_of StepAnswer.Going = Answer.Going
answer_of (StepAnswer.Waiting page by) = Answer.Waiting page by
answer_of (StepAnswer.Refused reason) = Answer.Refused reason

-- what the end of an operation asks
pub record MayFinish (item : ObjOp × ObjReply) (running : Running) (undo : Undo) (shared : SharedState)
    : Type 0 where
  pub reserved : reservation_of shared.objects.reserved running.tx ≡ Some (cell_of item.0)
  pub spare : 1 ≤ undo.spare
  pub room : 1 ≤ shared.history.room
  pub there : AreThere running.images shared.pages.store.pages

-- what a step of a pending operation asks: that its walk may go on, up to its end, and then that it may end
pub record MayStepOn (context : WalkContext) (o : OperationFields) (running : Running) (undo : Undo)
    (shared : SharedState) : Type 0 where
  pub op : ObjOp
  pub asked : o.request ≡ Do op
  pub goes : o.reply ≡ None → MayOperate context (local running shared.pages) o
  pub ends : (reply : ObjReply) → o.reply ≡ Some reply → MayFinish (op, reply) running undo shared

-- nothing but the operation and the pages has changed
pub record KeepsRest (undo undo' : Undo) (old new : SharedState) : Type 0 where
  pub undo_kept : undo' ≡ undo
  pub objects : new.objects ≡ old.objects
  pub history : new.history ≡ old.history

-- the operation's walk took a step
pub record Walks (context : WalkContext) (o o' : OperationFields) (old new : TxState) (told : StepAnswer)
    : Type 0 where
  pub unready : o.reply ≡ None
  pub rest : KeepsRest old.undo new.undo old.shared new.shared
  pub tells : TellsOfStep context
      (local old.running old.shared.pages) (local new.running new.shared.pages) o o' told

-- the operation came to its end
pub record Ends (o : OperationFields) (old new : TxState) (told : Answer) : Type 0 where
  pub op : ObjOp
  pub reply : ObjReply
  pub asked : o.request ≡ Do op
  pub ready : o.reply ≡ Some reply
  pub tells : TellsOfEnd (op, reply) old new told

-- What a step of a pending operation is told: what its walk tells, or its end. Blocked, it has
-- taken no step again.
abbrev pub TellsOfPending : WalkContext → OperationFields → OperationFields → TxState → TxState
    → Answer → Type 0
TellsOfPending context o o' old new Answer.Going = Walks context o o' old new StepAnswer.Going
TellsOfPending context o o' old new (Answer.Waiting page by) =
    Walks context o o' old new (StepAnswer.Waiting page by)
TellsOfPending context o o' old new (Answer.Refused reason) =
    Walks context o o' old new (StepAnswer.Refused reason)
TellsOfPending context o o' old new (Answer.Blocked by) =
    Ends o old new (Answer.Blocked by) × (o' ≡ started_for o.request)
TellsOfPending context o o' old new (Answer.Done reply) = Ends o old new (Answer.Done reply)
TellsOfPending context o o' old new other = ⊥

-- The last operation is taken off, the pages stay, and the history tells it.
pub record TakesOff (tx : ℕ) (undo undo' : Undo) (old new : SharedState) : Type 0 where
  pub last : ObjOp × ObjReply
  pub entries : undo.entries ≡ undo'.entries ++ last ∷ []
  pub pages : new.pages ≡ old.pages

-- There are some left; and the transaction holds and reserves what it did.
pub record TakesOne (tx : ℕ) (undo undo' : Undo) (old new : SharedState) : Type 0 where
  pub off : TakesOff tx undo undo' old new
  pub left : undo'.entries ≡ [] → ⊥
  pub objects : new.objects ≡ old.objects
  pub items : new.history.items ≡ old.history.items ++ TraceItem.Back tx ∷ []
  pub room : new.history.room + 1 ≡ old.history.room

-- It was the last; and the transaction is closed, and holds and reserves nothing.
pub record TakesLast (tx : ℕ) (undo undo' : Undo) (old new : SharedState) : Type 0 where
  pub off : TakesOff tx undo undo' old new
  pub none : undo'.entries ≡ []
  pub held : new.objects.held ≡ filter (is_of_other tx) old.objects.held
  pub unreserved : reservation_of new.objects.reserved tx ≡ None
  pub others : SameReservations old.objects.reserved new.objects.reserved tx
  pub items : new.history.items ≡ old.history.items ++ TraceItem.Back tx ∷ TraceItem.Abort tx ∷ []
  pub room : new.history.room + 2 ≡ old.history.room

-- The last operation is taken back; and where none is left, the transaction is closed.
abbrev pub TakesBack : ℕ → Undo → Undo → SharedState → SharedState → Answer → Type 0
TakesBack tx undo undo' old new Answer.Undone = TakesOne tx undo undo' old new
TakesBack tx undo undo' old new Answer.Aborted = TakesLast tx undo undo' old new
TakesBack tx undo undo' old new other = ⊥

-- an inverse that runs: it takes the item back, in its first pass
pub record IsInverting (item : ObjOp × ObjReply) (o : OperationFields) : Type 0 where
  pub asked : o.request ≡ TakeBack item
  pub first : IsInFirst o.access_path

-- What a step of an abort asks: something is left to take back, the last of which the inverse that runs takes back, or is
-- to; and its walk may go on.
pub record MayStepBack (context : WalkContext) (inverting : Option OperationFields) (running : Running)
    (undo : Undo) (shared : SharedState) : Type 0 where
  pub front : List (ObjOp × ObjReply)
  pub last : ObjOp × ObjReply
  pub entries : undo.entries ≡ front ++ last ∷ []
  pub room : 2 ≤ shared.history.room
  pub starts : inverting ≡ None → IsSome (inverse_of last)
      → MayOperate context (local running shared.pages) (started_for (TakeBack last))
  pub runs : (o : OperationFields) → inverting ≡ Some o → IsInverting last o
  pub goes : (o : OperationFields) → inverting ≡ Some o → o.reply ≡ None
      → MayOperate context (local running shared.pages) o

-- the inverse that runs, or that is to begin
abbrev pub inverse_from : Option OperationFields → ObjOp × ObjReply → OperationFields
inverse_from None last = started_for (TakeBack last)
inverse_from (Some o) last = o

-- The objects, and the history, are as they were.
pub record KeepsObjects (old new : SharedState) : Type 0 where
  pub objects : new.objects ≡ old.objects
  pub history : new.history ≡ old.history

-- the first step of the inverse of the item
pub record StartsInverse (item : ObjOp × ObjReply) (inverting' : Option OperationFields)
    (Is : OperationFields → OperationFields → Type 0) : Type 0 where
  pub after : OperationFields
  pub is : inverting' ≡ Some after
  pub inverts : IsInverting item after
  pub tells : Is (started_for (TakeBack item)) after

abbrev pub TellsOfStart : WalkContext → ObjOp × ObjReply → Option OperationFields → LocalState → LocalState
    → Answer → Type 0
TellsOfStart context item inverting' old new Answer.Going =
    StartsInverse item inverting' (λ o o'. StepsOn context old new o o')
TellsOfStart context item inverting' old new (Answer.Waiting page by) =
    StartsInverse item inverting' (λ o o'. Waits context old new o o' page by)
TellsOfStart context item inverting' old new other = ⊥

-- The inverse takes a step, of which this is so.
pub record InverseSteps (inverting inverting' : Option OperationFields) (undo undo' : Undo)
    (old new : SharedState) (Is : OperationFields → OperationFields → Type 0) : Type 0 where
  pub front : List (ObjOp × ObjReply)
  pub last : ObjOp × ObjReply
  pub entries : undo.entries ≡ front ++ last ∷ []
  pub begins : inverting ≡ None → IsSome (inverse_of last)
  pub after : OperationFields
  pub is : inverting' ≡ Some after
  pub inverts : IsInverting last after
  pub rest : KeepsRest undo undo' old new
  pub tells : Is (inverse_from inverting last) after

-- The inverse is at its end, or the last operation has none: it is taken back.
pub record EndsBack (inverting inverting' : Option OperationFields) (old new : TxState)
    (told : Answer) : Type 0 where
  pub between : SharedState
  pub none : inverting' ≡ None
  pub fast : inverting ≡ None → (between ≡ old.shared) × (new.running ≡ old.running)
  pub without : (front : List (ObjOp × ObjReply)) (last : ObjOp × ObjReply) → inverting ≡ None
      → old.undo.entries ≡ front ++ last ∷ [] → inverse_of last ≡ None
  pub at_end : (o : OperationFields) → inverting ≡ Some o
      → IsSome o.reply × EndsSubtx old.running new.running old.shared between
      × (between.objects ≡ old.shared.objects) × (between.history ≡ old.shared.history)
  pub takes : TakesBack old.running.tx old.undo new.undo between new.shared told

-- A step of an abort goes on, or waits, or takes the last operation back. It is never refused.
abbrev pub TellsOfBack : WalkContext → Option OperationFields → Option OperationFields → TxState
    → TxState → Answer → Type 0
TellsOfBack context inverting inverting' old new Answer.Going =
    InverseSteps inverting inverting' old.undo new.undo old.shared new.shared (λ o o'.
    StepsOn context (local old.running old.shared.pages) (local new.running new.shared.pages)
    o o')
TellsOfBack context inverting inverting' old new (Answer.Waiting page by) =
    InverseSteps inverting inverting' old.undo new.undo old.shared new.shared (λ o o'.
    Waits context (local old.running old.shared.pages) (local new.running new.shared.pages)
    o o' page by)
TellsOfBack context inverting inverting' old new Answer.Undone =
    EndsBack inverting inverting' old new Answer.Undone
TellsOfBack context inverting inverting' old new Answer.Aborted =
    EndsBack inverting inverting' old new Answer.Aborted
TellsOfBack context inverting inverting' old new other = ⊥
