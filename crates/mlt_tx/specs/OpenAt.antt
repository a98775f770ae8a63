-- What the transaction of a number is at, if it is open, and what a try to step or to call it answers
use Rattle.std.specs.Prelude.{ℕ, ◌≡◌, ◌<◌, ◌≤◌, length, None, Some, Result, Ok, Err}
use Rattle.std.specs.FinMap as map
use Rattle.mlt_types.specs.declared.refusal.Refusal.{Refusal}
use Rattle.mlt_object_kinds.specs.declared.operation.ObjOp.{ObjOp}
use Rattle.mlt_hash.specs.Walks.{WalkContext}
use Rattle.mlt_event.specs.declared.answer.Answer.{Answer}
use Rattle.mlt_tx.specs.{declared.shared.SharedState.SharedState, declared.transaction.At.At, declared.transaction.Transaction.Transaction, Transactions.IsPending, Transactions.IsUndoing, Transactions.MayStepIn, Tables.CallsNone, Tables.CallsOne, Tables.StepsOne, Tables.Table}

-- what a transaction may be at
abbrev pub IsIdle : At → Type 0
IsIdle At.Idle = Unit {0}
IsIdle other = ⊥

abbrev pub IsBusy : At → Type 0
IsBusy At.Idle = ⊥
IsBusy other = Unit {0}

-- the transaction of this number is open, and this is so of what it is at
pub record IsOpenAt (txs : Table) (tx : ℕ) (Is : At → Type 0) : Type 0 where
  pub one : Transaction
  pub there : map.get txs tx ≡ Some one
  pub is_at : Is one.at

-- no transaction of this number is open
abbrev pub IsNotOpen : Table → ℕ → Type 0
IsNotOpen txs tx = map.get txs tx ≡ None

-- it is open and at nothing, and has done this many operations that stand
pub record IsIdleWith (txs : Table) (tx count : ℕ) : Type 0 where
  pub one : Transaction
  pub there : map.get txs tx ≡ Some one
  pub idle : one.at ≡ At.Idle
  pub counts : length one.undo.entries ≡ count

-- why a transaction is not idle: there is none of this number; or its abort has begun; or an operation is pending
abbrev pub IsNotIdle : Refusal → Table → ℕ → Type 0
IsNotIdle Refusal.NoSuchTx txs tx = IsNotOpen txs tx
IsNotIdle Refusal.Undoing txs tx = IsOpenAt txs tx IsUndoing
IsNotIdle Refusal.Running txs tx = IsOpenAt txs tx IsPending
IsNotIdle other txs tx = ⊥

-- it may be called: it is idle, and may have one more operation
abbrev pub MayCallOne : Table → ℕ → ℕ → Type 0
MayCallOne txs tx max_ops = (count : ℕ) × IsIdleWith txs tx count × (count < max_ops)

-- why it is not called: it is not idle; or it has as many operations as it may have
abbrev pub IsCauseAtCallOf : Refusal → Table → ℕ → ℕ → Type 0
IsCauseAtCallOf Refusal.LogFull txs tx max_ops =
    (count : ℕ) × IsIdleWith txs tx count × (max_ops ≤ count)
IsCauseAtCallOf reason txs tx max_ops = IsNotIdle reason txs tx

-- A try to call it makes the operation pending, or answers why not. One that was refused memory may leave room reserved.
abbrev pub TriesCall : ℕ → ObjOp → ℕ → Table → Table → SharedState → SharedState
    → Result (Unit {0}) Refusal → Type 0
TriesCall tx op max_ops old new shared shared' (Ok done) =
    MayCallOne old tx max_ops × CallsOne tx op old new shared shared'
TriesCall tx op max_ops old new shared shared' (Err Refusal.OutOfMemory) =
    MayCallOne old tx max_ops × CallsNone tx old new shared shared'
TriesCall tx op max_ops old new shared shared' (Err reason) =
    IsCauseAtCallOf reason old tx max_ops × (new ≡ old) × (shared' ≡ shared)

-- why it takes no step: there is none of this number, or it is at nothing
abbrev pub IsCauseAtStep : Refusal → Table → ℕ → Type 0
IsCauseAtStep Refusal.NoSuchTx txs tx = IsNotOpen txs tx
IsCauseAtStep Refusal.NotRunning txs tx = IsOpenAt txs tx IsIdle
IsCauseAtStep other txs tx = ⊥

-- where it is at something, it may take a step; `context` is what the transaction of each number goes by
abbrev pub MayStepIfBusy : (ℕ → WalkContext) → ℕ → Table → SharedState → Type 0
MayStepIfBusy context tx txs shared =
    (one : Transaction) → map.get txs tx ≡ Some one → IsBusy one.at
    → MayStepIn (context one.subtx.tx) one shared

-- A try to step it takes a step, or answers why it takes none.
abbrev pub TriesStep : (ℕ → WalkContext) → ℕ → Table → Table → SharedState → SharedState
    → Result Answer Refusal → Type 0
TriesStep context tx old new shared shared' (Ok told) =
    StepsOne context tx old new shared shared' told
TriesStep context tx old new shared shared' (Err reason) =
    IsCauseAtStep reason old tx × (new ≡ old) × (shared' ≡ shared)
