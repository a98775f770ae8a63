-- What the end of an operation does to the pages, the object locks, the undo list and the history
use Rattle.std.specs.Prelude.{ℕ, ◌≡◌, ◌+◌, [], ◌∷◌, ◌++◌}
use Rattle.mlt_object_kinds.specs.declared.operation.{ObjOp.ObjOp, ObjReply.ObjReply}
use Rattle.mlt_page_locks.specs.Requests.{released}
use Rattle.mlt_page_subtx.specs.Images.{Running, put_back, started}
use Rattle.mlt_object_base.specs.Undo.{Undo}
use Rattle.mlt_object_locks.specs.Locks.{HoldsClash, IsLowestClash, SameReservations}
use Rattle.mlt_trace.specs.declared.item.TraceItem.{TraceItem}
use Rattle.mlt_event.specs.declared.answer.Answer.{Answer}
use Rattle.mlt_tx.specs.declared.shared.SharedState.{SharedState}

-- a subtransaction ends, and what it has written stays
pub record EndsSubtx (before after : Running) (old new : SharedState) : Type 0 where
  pub running : after ≡ started before.tx
  pub locks : new.pages.locks ≡ released old.pages.locks before.tx
  pub store : new.pages.store ≡ old.pages.store

-- it is rolled back
pub record RollsBackSubtx (before after : Running) (old new : SharedState) : Type 0 where
  pub running : after ≡ started before.tx
  pub locks : new.pages.locks ≡ released old.pages.locks before.tx
  pub store : new.pages.store
      ≡ record old.pages.store { pages = put_back before.images old.pages.store.pages }

-- where a transaction works: its subtransaction, its undo list, and what all transactions share
pub record TxState : Type 0 where
  pub running : Running
  pub undo : Undo
  pub shared : SharedState

abbrev pub tx_state : Running → Undo → SharedState → TxState
tx_state running undo shared = record { running = running; undo = undo; shared = shared }

-- The item is done: nobody else holds a clash, and the transaction holds it, may take it back, and has it in the
-- history.
pub record IsDone (item : ObjOp × ObjReply) (old new : TxState) : Type 0 where
  pub free : (holder : ℕ) → HoldsClash old.shared.objects.held old.running.tx item holder → ⊥
  pub ends : EndsSubtx old.running new.running old.shared new.shared
  pub held : new.shared.objects.held ≡ old.shared.objects.held ++ (old.running.tx, item) ∷ []
  pub reserved : SameReservations old.shared.objects.reserved new.shared.objects.reserved
      old.running.tx
  pub entries : new.undo.entries ≡ old.undo.entries ++ item ∷ []
  pub items : new.shared.history.items
      ≡ old.shared.history.items ++ TraceItem.Op old.running.tx item ∷ []
  pub room : new.shared.history.room + 1 ≡ old.shared.history.room

-- The item clashes with what this transaction holds, the lowest, and is rolled back.
pub record IsBlocked (item : ObjOp × ObjReply) (old new : TxState) (by : ℕ) : Type 0 where
  pub lowest : IsLowestClash old.shared.objects.held old.running.tx item by
  pub back : RollsBackSubtx old.running new.running old.shared new.shared
  pub objects : new.shared.objects ≡ old.shared.objects
  pub history : new.shared.history ≡ old.shared.history
  pub kept : new.undo ≡ old.undo

-- what the end of an operation is told: it is done, or blocked
abbrev pub TellsOfEnd : ObjOp × ObjReply → TxState → TxState → Answer → Type 0
TellsOfEnd item old new (Answer.Done reply) = (reply ≡ item.1) × IsDone item old new
TellsOfEnd item old new (Answer.Blocked by) = IsBlocked item old new by
TellsOfEnd item old new other = ⊥
