-- What a subtransaction that makes pages can know of the locks.
use Rattle.std.specs.Prelude.{◌≡◌, ℕ, true, false, is_some}
use Rattle.mlt_page_locks.specs.{LockTables.LockTable, LockTables.can_read, LockTables.HasRoom, Requests.granted}
use Rattle.mlt_types.specs.declared.mode.Mode.TheVariants.{Exclusive}
use Rattle.mlt_page.specs.Stores.{Pages, page_at}

-- only pages that are there are locked
abbrev pub LocksPagesThere : LockTable → Pages → Type 0
LocksPagesThere locks pages =
    (tx q : ℕ) → can_read locks tx q ≡ true → is_some (page_at pages q) ≡ true

-- there is room for a lock of tx on one page more
abbrev pub HasRoomForOneMore : LockTable → ℕ → Type 0
HasRoomForOneMore locks tx =
    (q : ℕ) → can_read locks tx q ≡ false → HasRoom (granted locks tx q Exclusive)
