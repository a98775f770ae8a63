-- What each event of a manager answers, why, and what it leaves
use Rattle.std.specs.Prelude.{ℕ, ◌≡◌, ◌≢◌, ◌<◌, ◌≤◌, ◌+◌, ◌-◌, ◌^◌, Bool, true, false, [], ◌∷◌, ◌++◌, length, min, None, Some, IsSome, Result, Ok, Err, filter}
use Rattle.std.specs.Ordering.{nat_cmp}
use Rattle.std.specs.FinMap as map
use Rattle.std.specs.FinSet as set
use Rattle.mlt_types.specs.declared.refusal.Refusal.{Refusal}
use Rattle.mlt_object_kinds.specs.declared.operation.ObjOp.{ObjOp}
use Rattle.mlt_object_locks.specs.Locks.{SameReservations, is_of_other, reservation_of}
use Rattle.mlt_page_subtx.specs.Images.{started}
use Rattle.mlt_trace.specs.declared.item.TraceItem.{TraceItem}
use Rattle.mlt_event.specs.declared.answer.Answer.{Answer}
use Rattle.mlt_tx.specs.{declared.transaction.At.At, declared.transaction.Transaction.Transaction, Transactions.IsPending}
pub use Rattle.mlt_tx.specs.{Transactions.IsUndoing, OpenAt.IsBusy, OpenAt.IsCauseAtCallOf, OpenAt.IsCauseAtStep, OpenAt.IsIdle, OpenAt.IsIdleWith, OpenAt.IsNotIdle, OpenAt.IsNotOpen, OpenAt.IsOpenAt, OpenAt.MayCallOne}
use Rattle.mlt_hash.specs.Walks.{context_by}
use Rattle.mlt_tx.specs.Tables.{CallsNone, CallsOne, CancelsOne, PutsOneAt, StepsOne, Table}
use Rattle.mlt_tx_meaning.specs.Presences.{IsOpInRange}
use Rattle.mlt_manager.specs.Managers.{ManagerFields}

-- the number of events after one more; it stays at the greatest that there is
abbrev pub next_count : ℕ → ℕ
next_count events = min (events + 1) (2 ^ 64 - 1)

-- one more event, and nothing else
abbrev pub counted : {P : Type 0} → ManagerFields P → ManagerFields P
counted m = record m { events = next_count m.events }

-- an operation or an inverse of it runs, and holds what pages it has locked
abbrev pub IsRunning : At → Type 0
IsRunning (At.Pending o) = Unit {0}
IsRunning (At.Undoing (Some o)) = Unit {0}
IsRunning other = ⊥

-- why no transaction begins: as many are open as may be; else all numbers are given out; else there is no memory
abbrev pub IsCauseAtBegin : {P : Type 0} → Refusal → ManagerFields P → Type 0
IsCauseAtBegin Refusal.TooManyOpen m = m.max_open ≤ map.len m.txs
IsCauseAtBegin Refusal.IdsSpent m = (map.len m.txs < m.max_open) × (m.max_ids ≤ m.begun)
IsCauseAtBegin Refusal.OutOfMemory m = (map.len m.txs < m.max_open) × (m.begun < m.max_ids)
IsCauseAtBegin other m = ⊥

-- A transaction begins: it has the next number and has done nothing. The history has it, and room for its end.
pub record HasBegun {P : Type 0} (old new : ManagerFields P) (tx : ℕ) : Type 0 where
  pub free : map.len old.txs < old.max_open
  pub left : old.begun < old.max_ids
  pub number : tx ≡ old.begun + 1
  pub one : Transaction
  pub subtx : one.subtx ≡ started tx
  pub entries : one.undo.entries ≡ []
  pub idle : one.at ≡ At.Idle
  pub pages : new.shared.pages ≡ old.shared.pages
  pub objects : new.shared.objects ≡ old.shared.objects
  pub items : new.shared.history.items ≡ old.shared.history.items ++ TraceItem.Begin tx ∷ []
  pub room : new.shared.history.room ≡ old.shared.history.room + 1
  pub rest : new ≡ record old {
    shared = new.shared;
    txs = map.insert old.txs tx one;
    active = set.insert old.active tx;
    begun = tx;
  }

-- A begin answers the next number, of a transaction that has done nothing; or why none begins.
abbrev pub AnswersBegin : {P : Type 0} → ManagerFields P → ManagerFields P → Result ℕ Refusal
    → Type 0
AnswersBegin old new (Ok tx) = HasBegun old new tx
AnswersBegin old new (Err reason) = IsCauseAtBegin reason old × (new ≡ old)

-- it may be called: it is idle, and may have one more operation
abbrev pub MayCall : {P : Type 0} → ManagerFields P → ℕ → Type 0
MayCall m tx = MayCallOne m.txs tx m.max_ops

-- why it is not called: it is not idle; or it has as many operations as it may have
abbrev pub IsCauseAtCall : {P : Type 0} → Refusal → ManagerFields P → ℕ → Type 0
IsCauseAtCall reason m tx = IsCauseAtCallOf reason m.txs tx m.max_ops

-- one transaction and what all share have changed, and nothing else
abbrev pub ChangesOpen : {P : Type 0} → ManagerFields P → ManagerFields P → Type 0
ChangesOpen old new = new ≡ record old { shared = new.shared; txs = new.txs }

-- a transaction is called with an operation
pub record HasCalled {P : Type 0} (old new : ManagerFields P) (tx : ℕ) (op : ObjOp) : Type 0 where
  pub may : MayCall old tx
  pub in_range : IsOpInRange op
  pub calls : CallsOne tx op old.txs new.txs old.shared new.shared
  pub rest : ChangesOpen old new

-- A call makes the operation pending; or it answers why not. One that was refused memory may leave
-- room reserved.
abbrev pub AnswersCall : {P : Type 0} → ManagerFields P → ManagerFields P → ℕ → ObjOp
    → Result (Unit {0}) Refusal → Type 0
AnswersCall old new tx op (Ok done) = HasCalled old new tx op
AnswersCall old new tx op (Err Refusal.OutOfMemory) =
    MayCall old tx × CallsNone tx old.txs new.txs old.shared new.shared × ChangesOpen old new
AnswersCall old new tx op (Err reason) = IsCauseAtCall reason old tx × (new ≡ old)

-- a transaction that is told `Aborted` is open no more
abbrev pub txs_after : Answer → ℕ → Table → Table
txs_after Answer.Aborted tx txs = map.remove txs tx
txs_after other tx txs = txs

abbrev pub active_after : Answer → ℕ → set.FinSet nat_cmp → set.FinSet nat_cmp
active_after Answer.Aborted tx active = set.remove active tx
active_after other tx active = active

-- a transaction takes a step, and is open no more if it is told `Aborted`
pub record HasStepped {P : Type 0} (bits_of : P → ℕ → ℕ) (old new : ManagerFields P) (tx : ℕ)
    (told : Answer) : Type 0 where
  pub busy : IsOpenAt old.txs tx IsBusy
  pub txs : Table
  pub steps : StepsOne (context_by bits_of old.root old.active) tx old.txs txs
      old.shared new.shared told
  pub rest : new ≡ record old {
    shared = new.shared;
    txs = txs_after told tx txs;
    active = active_after told tx old.active;
  }

-- whoever it waits for is another transaction, which runs; and whoever blocks it is another, which is open
abbrev pub IsByAnother : Answer → Table → ℕ → Type 0
IsByAnother (Answer.Waiting page by) txs tx = (by ≢ tx) × IsOpenAt txs by IsRunning
IsByAnother (Answer.Blocked by) txs tx = (by ≢ tx) × IsSome (map.get txs by)
IsByAnother other txs tx = Unit {0}

-- A step answers what the transaction tells of it; or why there is none.
abbrev pub AnswersStep : {P : Type 0} → (P → ℕ → ℕ) → ManagerFields P → ManagerFields P → ℕ
    → Result Answer Refusal → Type 0
AnswersStep bits_of old new tx (Ok told) = HasStepped bits_of old new tx told
AnswersStep bits_of old new tx (Err reason) = IsCauseAtStep reason old.txs tx × (new ≡ old)

-- why no operation is cancelled: there is none of this number; or its abort has begun; or it is at nothing
abbrev pub IsCauseAtCancel : Refusal → Table → ℕ → Type 0
IsCauseAtCancel Refusal.NoSuchTx txs tx = IsNotOpen txs tx
IsCauseAtCancel Refusal.Undoing txs tx = IsOpenAt txs tx IsUndoing
IsCauseAtCancel Refusal.NotRunning txs tx = IsOpenAt txs tx IsIdle
IsCauseAtCancel other txs tx = ⊥

-- A cancel drops the pending operation; or it answers why not.
abbrev pub AnswersCancel : {P : Type 0} → ManagerFields P → ManagerFields P → ℕ
    → Result (Unit {0}) Refusal → Type 0
AnswersCancel old new tx (Ok done) =
    IsOpenAt old.txs tx IsPending × CancelsOne tx old.txs new.txs old.shared new.shared
    × ChangesOpen old new
AnswersCancel old new tx (Err reason) = IsCauseAtCancel reason old.txs tx × (new ≡ old)

-- A transaction at nothing is open no more: it gives up what it holds and reserves, and the history tells it by this item.
pub record HasEnded {P : Type 0} (old new : ManagerFields P) (tx : ℕ) (item : TraceItem)
    : Type 0 where
  pub one : Transaction
  pub there : map.get old.txs tx ≡ Some one
  pub idle : one.at ≡ At.Idle
  pub pages : new.shared.pages ≡ old.shared.pages
  pub held : new.shared.objects.held ≡ filter (is_of_other tx) old.shared.objects.held
  pub unreserved : reservation_of new.shared.objects.reserved tx ≡ None
  pub reserved : SameReservations old.shared.objects.reserved new.shared.objects.reserved tx
  pub items : new.shared.history.items ≡ old.shared.history.items ++ item ∷ []
  pub room : new.shared.history.room + (1 + length one.undo.entries) ≡ old.shared.history.room
  pub txs : new.txs ≡ map.remove old.txs tx
  pub active : new.active ≡ set.remove old.active tx

-- a transaction commits, under the next number
pub record HasCommitted {P : Type 0} (old new : ManagerFields P) (tx number : ℕ) : Type 0 where
  pub next : number ≡ old.commits + 1
  pub ends : HasEnded old new tx (TraceItem.Commit tx number)
  pub rest : new ≡ record old {
    shared = new.shared;
    txs = new.txs;
    active = new.active;
    commits = number;
  }

-- A commit answers its number, the next one, and the transaction is open no more; or it answers why
-- not.
abbrev pub AnswersCommit : {P : Type 0} → ManagerFields P → ManagerFields P → ℕ → Result ℕ Refusal
    → Type 0
AnswersCommit old new tx (Ok number) = HasCommitted old new tx number
AnswersCommit old new tx (Err reason) = IsNotIdle reason old.txs tx × (new ≡ old)

-- a transaction that has nothing to take back is closed
pub record HasClosed {P : Type 0} (old new : ManagerFields P) (tx : ℕ) : Type 0 where
  pub nothing : IsIdleWith old.txs tx 0
  pub ends : HasEnded old new tx (TraceItem.Abort tx)
  pub rest : new ≡ record old {
    shared = new.shared;
    txs = new.txs;
    active = new.active;
  }

-- a transaction that has something to take back is to do so
pub record HasBegunAbort {P : Type 0} (old new : ManagerFields P) (tx : ℕ) : Type 0 where
  pub count : ℕ
  pub idle : IsIdleWith old.txs tx count
  pub some : 0 < count
  pub puts : PutsOneAt tx (At.Undoing None) old.txs new.txs
  pub rest : new ≡ record old { txs = new.txs }

-- An abort closes a transaction that has nothing to take back, and begins to take back what any
-- other did; or it answers why not.
abbrev pub AnswersAbort : {P : Type 0} → ManagerFields P → ManagerFields P → ℕ
    → Result Bool Refusal → Type 0
AnswersAbort old new tx (Ok true) = HasClosed old new tx
AnswersAbort old new tx (Ok false) = HasBegunAbort old new tx
AnswersAbort old new tx (Err reason) = IsNotIdle reason old.txs tx × (new ≡ old)
