-- The page locks that a list of calls asks for.
use Rattle.std.specs.Prelude.{◌≡◌, ℕ, ◌<◌, ◌≤◌, ◌+◌, true}
use Rattle.mlt_page_locks.specs.LockTables.{LockTable, is_holder, can_read}

-- a number is below 16, or at most 15 above 4096
abbrev pub IsSmall : ℕ → Type 0
IsSmall k = 16 ≤ k → (4096 ≤ k) × (k < 4096 + 16)

-- all locks are of transactions and on pages whose numbers are small
pub record IsOfSmallNumbers (table : LockTable) : Type 0 where
  pub holders : (tx : ℕ) → is_holder table tx ≡ true → IsSmall tx
  pub pages : (tx q : ℕ) → can_read table tx q ≡ true → IsSmall q
