-- Events that begin and end a transaction, or its abort
use Rattle.std.specs.Prelude.{ℕ, ◌≡◌, ◌+◌, [], ◌∷◌, ◌++◌, None, filter}
use Rattle.std.specs.FinMap as map
use Rattle.std.specs.FinSet as set
use Rattle.mlt_object_locks.specs.Locks.{SameReservations, is_of_other}
use Rattle.mlt_page_subtx.specs.Images.{started}
use Rattle.mlt_trace.specs.declared.item.TraceItem.{TraceItem}
use Rattle.mlt_tx.specs.declared.{shared.SharedState.SharedState, transaction.At.At, transaction.Transaction.Transaction}
use Rattle.mlt_manager_invariant.specs.States.{State, room_of}

-- the next number is given out, to this transaction
abbrev pub with_next : State → Transaction → SharedState → State
with_next s t shared = record s {
  shared = shared;
  txs = map.insert s.txs (s.begun + 1) t;
  images = map.insert s.images (s.begun + 1) map.empty;
  active = set.insert s.active (s.begun + 1);
  begun = s.begun + 1;
}

-- The transaction has the next number and has done nothing; the history tells that it began, and keeps room for its
-- end.
pub record Begins (s : State) (t : Transaction) (shared : SharedState) : Type 0 where
  pub subtx : t.subtx ≡ started (s.begun + 1)
  pub entries : t.undo.entries ≡ []
  pub idle : t.at ≡ At.Idle
  pub pages : shared.pages ≡ s.shared.pages
  pub objects : shared.objects ≡ s.shared.objects
  pub items : shared.history.items ≡ s.shared.history.items ++ TraceItem.Begin (s.begun + 1) ∷ []
  pub room : shared.history.room ≡ s.shared.history.room + 1

-- transaction i is open no more
abbrev pub without_transaction : State → ℕ → SharedState → State
without_transaction s i shared = record s {
  shared = shared;
  txs = map.remove s.txs i;
  images = map.remove s.images i;
  active = set.remove s.active i;
}

-- Transaction i, at nothing, ends: it gives up what it holds and the room that it has left, and the history has this
-- item of it.
pub record Ends (s : State) (i : ℕ) (t : Transaction) (shared : SharedState) (item : TraceItem)
    : Type 0 where
  pub idle : t.at ≡ At.Idle
  pub pages : shared.pages ≡ s.shared.pages
  pub held : shared.objects.held ≡ filter (is_of_other i) s.shared.objects.held
  pub reserved : SameReservations s.shared.objects.reserved shared.objects.reserved i
  pub items : shared.history.items ≡ s.shared.history.items ++ item ∷ []
  pub room : shared.history.room + room_of t ≡ s.shared.history.room

-- an abort begins: what was at nothing is to take back what it did
pub record BeginsAbort (before after : Transaction) : Type 0 where
  pub idle : before.at ≡ At.Idle
  pub some : before.undo.entries ≡ [] → ⊥
  pub subtx : after.subtx ≡ before.subtx
  pub undo : after.undo ≡ before.undo
  pub undoing : after.at ≡ At.Undoing None
