-- A manager of which at most one transaction is open
use Rattle.std.specs.Prelude.{ℕ, ◌≡◌, ◌≢◌, ◌≤◌, None}
use Rattle.std.specs.FinMap as map
use Rattle.mlt_tx.specs.declared.transaction.At.{At}
use Rattle.mlt_manager.specs.{Answers.IsIdle, Answers.IsOpenAt, Answers.IsUndoing, Managers.IsManager, Managers.ManagerFields, Promises.lists_by}

-- no transaction is open, and one may be
pub record IsAtRest {P : Type 0} (bits_of : P → ℕ → ℕ) (m : ManagerFields P) : Type 0 where
  pub manager : IsManager bits_of m
  pub nobody : (i : ℕ) → map.get m.txs i ≡ None
  pub limit : 1 ≤ m.max_open

-- this transaction alone is open, and is at such a place
pub record HasOne {P : Type 0} (bits_of : P → ℕ → ℕ) (IsThere : At → Type 0) (m : ManagerFields P)
    (tx : ℕ) : Type 0 where
  pub manager : IsManager bits_of m
  pub one : IsOpenAt m.txs tx IsThere
  pub alone : (i : ℕ) → i ≢ tx → map.get m.txs i ≡ None
  pub limit : 1 ≤ m.max_open

abbrev pub HasOneIdle : {P : Type 0} → (P → ℕ → ℕ) → ManagerFields P → ℕ → Type 0
HasOneIdle bits_of m tx = HasOne bits_of IsIdle m tx

abbrev pub HasOneUndoing : {P : Type 0} → (P → ℕ → ℕ) → ManagerFields P → ℕ → Type 0
HasOneUndoing bits_of m tx = HasOne bits_of IsUndoing m tx

-- no transaction has committed
abbrev pub KeepsCommitted : {P : Type 0} → ManagerFields P → ManagerFields P → Type 0
KeepsCommitted old new =
    ((lists_by new).committed ≡ (lists_by old).committed) × (new.commits ≡ old.commits)
