-- What a pending operation does to its transaction that takes all of its steps at once
use Rattle.std.specs.Prelude.{◌≡◌, ◌≤◌, ◌+◌, Option, None, Some}
use Rattle.mlt_object_kinds.specs.{declared.operation.ObjOp.ObjOp, declared.operation.ObjReply.ObjReply, Operations.cell_of}
use Rattle.mlt_object_base.specs.declared.request.Request.TheVariants.{Do}
use Rattle.mlt_object_locks.specs.Locks.{reservation_of}
use Rattle.mlt_page_subtx.specs.Images.{started}
use Rattle.mlt_hash_access.specs.LocalStates.{local}
use Rattle.mlt_hash.specs.Walks.{WalkContext}
use Rattle.mlt_tx_operation.specs.{Operating.MayOperate, Operating.started_for, Fast.NobodyHolds}
use Rattle.mlt_event.specs.declared.answer.Answer.{Answer}
use Rattle.mlt_tx.specs.{declared.shared.SharedState.SharedState, declared.transaction.At.At, declared.transaction.Transaction.Transaction, Transactions.MakesRoom, Transactions.TellsOfCall, Transactions.TellsOfTransaction}

-- The transaction is at nothing and has written nothing, and nobody holds a page. Were it called with this operation, it might
-- take its steps.
pub record MayCallFast (context : WalkContext) (op : ObjOp) (t : Transaction) (shared : SharedState)
    : Type 0 where
  pub idle : t.at ≡ At.Idle
  pub fresh : t.subtx ≡ started t.subtx.tx
  pub free : NobodyHolds shared.pages.locks
  pub may : MayOperate context (local t.subtx shared.pages) (started_for (Do op))

-- There is room for the undo entry and the object lock of this operation, and for its two items of the history.
pub record HasRoomFor (op : ObjOp) (before after : Transaction) (old new : SharedState) : Type 0 where
  pub makes : MakesRoom before after old new
  pub at_kept : after.at ≡ before.at
  pub spare : 1 ≤ after.undo.spare
  pub reserved : reservation_of new.objects.reserved before.subtx.tx ≡ Some (cell_of op)
  pub room : new.history.room ≡ old.history.room + 2

-- the transaction, called with this operation, which has taken no step
abbrev pub called_with : ObjOp → Transaction → Transaction
called_with op t = record { subtx = t.subtx; undo = t.undo; at = At.Pending (started_for (Do op)) }

-- a step of a transaction, which keeps its number
pub record TakesStep (context : WalkContext) (before after : Transaction) (old new : SharedState) (told : Answer)
    : Type 0 where
  pub tells : TellsOfTransaction context before after old new told
  pub number : after.subtx.tx ≡ before.subtx.tx

-- four steps one after another: to the header, to the directory page, to the bucket, and the end, which tells this reply
pub record StepsFast (context : WalkContext) (before after : Transaction) (old new : SharedState)
    (reply : ObjReply) : Type 0 where
  pub headed : Transaction
  pub placed : Transaction
  pub told : Transaction
  pub with_header : SharedState
  pub with_directory : SharedState
  pub with_bucket : SharedState
  pub first : TakesStep context before headed old with_header Answer.Going
  pub second : TakesStep context headed placed with_header with_directory Answer.Going
  pub third : TakesStep context placed told with_directory with_bucket Answer.Going
  pub ends : TakesStep context told after with_bucket new (Answer.Done reply)

-- it is called, and takes its four steps at once
pub record IsDoneFast (context : WalkContext) (op : ObjOp) (before after : Transaction) (old new : SharedState)
    (reply : ObjReply) : Type 0 where
  pub called : Transaction
  pub with_room : SharedState
  pub calls : TellsOfCall op before called old with_room
  pub steps : StepsFast context called after with_room new reply

-- an operation that is called is done at once, or pending
abbrev pub CallsFast : Option ObjReply → WalkContext → ObjOp → Transaction → Transaction → SharedState
    → SharedState → Type 0
CallsFast None context op before after old new = TellsOfCall op before after old new
CallsFast (Some reply) context op before after old new =
    IsDoneFast context op before after old new reply
