-- Events of one transaction
use Rattle.std.specs.Prelude.{length, ◌<◌, ◌≤◌, ℕ, ◌≡◌, ◌+◌, Some}
use Rattle.std.specs.FinMap as map
use Rattle.mlt_hash_access.specs.{CleanPages.RunningImages, Running.KeepsRunning, Running.clean_of}
use Rattle.mlt_object_kinds.specs.{declared.operation.ObjOp.ObjOp, Operations.cell_of, Bases.Base, declared.operation.ObjReply.ObjReply}
use Rattle.mlt_tx_meaning.specs.Presences.{IsOpInRange}
use Rattle.mlt_object_base.specs.declared.request.Request.TheVariants.{Do}
use Rattle.mlt_object_locks.specs.Locks.{SameReservations, reservation_of}
use Rattle.mlt_tx_operation.specs.Operating.{OperationFields, started_for}
use Rattle.mlt_event.specs.declared.answer.Answer.{Answer}
use Rattle.mlt_tx.specs.{Transactions.tx_state_of, declared.transaction.At.At, Steps.Ends, declared.shared.SharedState.SharedState, declared.transaction.Transaction.Transaction}
use Rattle.mlt_manager_invariant.specs.{Sound.FitsAt, States.State, States.all_of, States.is_undoing, States.room_of}

-- transaction i is now this one, and the pages, the locks and the history are these
abbrev pub with_transaction : State → ℕ → Transaction → SharedState → RunningImages → State
with_transaction s i t shared images = record s {
  shared = shared;
  txs = map.insert s.txs i t;
  images = images;
}

-- The clean pages, the items of the history and what is held stay, and so does all that others see, hold and reserve. The
-- transaction keeps what it may take back, and whether its abort has begun, and is where it may be.
pub record KeepsClean (s : State) (i : ℕ) (before after : Transaction) (shared : SharedState)
    (images : RunningImages) : Type 0 where
  pub runs : KeepsRunning i (all_of s) (all_of (with_transaction s i after shared images))
  pub clean : clean_of (all_of (with_transaction s i after shared images)) ≡ clean_of (all_of s)
  pub own : map.get images i ≡ Some after.subtx.images
  pub number : after.subtx.tx ≡ i
  pub held : shared.objects.held ≡ s.shared.objects.held
  pub reserved : SameReservations s.shared.objects.reserved shared.objects.reserved i
  pub items : shared.history.items ≡ s.shared.history.items
  pub room : shared.history.room + room_of before ≡ s.shared.history.room + room_of after
  pub entries : after.undo.entries ≡ before.undo.entries
  pub undoing : is_undoing after.at ≡ is_undoing before.at
  pub fits : FitsAt after.at (with_transaction s i after shared images) i after

-- the event is one that leaves the clean pages, with some first images
abbrev pub KeepsCleanPages : State → ℕ → Transaction → Transaction → SharedState → Type 0
KeepsCleanPages s i before after shared =
    (images : RunningImages) × KeepsClean s i before after shared images

-- The subtransaction of transaction i ends: what it has written is clean, and leads to this base.
abbrev pub with_end : State → ℕ → Transaction → SharedState → Base → State
with_end s i t shared base = record (with_transaction s i t shared (map.insert s.images i map.empty)) {
  base = base;
}

-- what the pending operation of transaction i leaves that is done
pub record EndsPending (s : State) (i : ℕ) (o : OperationFields) (before after : Transaction)
    (shared : SharedState) (told : ObjReply) : Type 0 where
  pub pending : before.at ≡ At.Pending o
  pub ends : Ends o (tx_state_of before s.shared) (tx_state_of after shared)
      (Answer.Done told)
  pub idle : after.at ≡ At.Idle

-- An idle transaction is called: its operation is pending, its cell is reserved, and there is room for its undo entry and
-- for its items of the history.
pub record Calls (s : State) (i : ℕ) (before after : Transaction) (shared : SharedState) : Type 0 where
  pub op : ObjOp
  pub in_range : IsOpInRange op
  pub idle : before.at ≡ At.Idle
  pub fewer : length before.undo.entries < s.max_ops
  pub pending : after.at ≡ At.Pending (started_for (Do op))
  pub subtx_kept : after.subtx ≡ before.subtx
  pub entries : after.undo.entries ≡ before.undo.entries
  pub spare : 1 ≤ after.undo.spare
  pub pages : shared.pages ≡ s.shared.pages
  pub held : shared.objects.held ≡ s.shared.objects.held
  pub reserved : reservation_of shared.objects.reserved i ≡ Some (cell_of op)
  pub others : SameReservations s.shared.objects.reserved shared.objects.reserved i
  pub items : shared.history.items ≡ s.shared.history.items
  pub room : shared.history.room ≡ s.shared.history.room + 2
