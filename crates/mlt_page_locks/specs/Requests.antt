-- What a request for a page lock is told, and what it leaves.
use Rattle.std.specs.Prelude.{◌≡◌, ℕ, ◌≤◌, ◌==◌, Bool, true, false, not, ◌&&◌, Option, None, Some}
use Rattle.std.specs.Ordering.{nat_cmp}
use Rattle.std.specs.FinMap as map
use Rattle.mlt_types.specs.declared.mode.Mode.{Mode, TheVariants.Shared, TheVariants.Exclusive}
use Rattle.mlt_page_locks.specs.{declared.page_locks.Grant.Grant, declared.page_locks.Grant.TheVariants.Held, declared.page_locks.Grant.TheVariants.Waiting, LockTables.LockTable, LockTables.pages_of, LockTables.mode_held, LockTables.goes_with}

-- whether a lock that is held in this mode, if one is, does not go with one that is asked for
abbrev pub is_against : Option Mode → Mode → Bool
is_against None asked = false
is_against (Some held) asked = not (goes_with held asked)

-- whether the transaction other holds page q in a mode that does not go with a lock of tx
abbrev pub conflicts : LockTable → ℕ → ℕ → Mode → ℕ → Bool
conflicts table tx q mode other = not (other == tx) && is_against (mode_held table other q) mode

-- nobody has the property
abbrev pub IsNobody : (ℕ → Bool) → Type 0
IsNobody has = (u : ℕ) → has u ≡ false

-- the lowest number that has the property
pub record IsLowest (has : ℕ → Bool) (lowest : ℕ) : Type 0 where
  pub has_it : has lowest ≡ true
  pub least : (u : ℕ) → has u ≡ true → lowest ≤ u

-- the mode that is held once `asked` is granted
abbrev pub stronger : Option Mode → Mode → Mode
stronger None asked = asked
stronger (Some Shared) asked = asked
stronger (Some Exclusive) asked = Exclusive

-- the pages with page q in the stronger mode
abbrev pub with_page : map.FinMap nat_cmp Mode → ℕ → Mode → map.FinMap nat_cmp Mode
with_page modes q mode = map.insert modes q (stronger (map.get modes q) mode)

-- the table once tx has page q granted in this mode
abbrev pub granted : LockTable → ℕ → ℕ → Mode → LockTable
granted table tx q mode = record {
  held = map.insert table.held tx (with_page (pages_of table tx) q mode);
  max_open = table.max_open;
}

-- the table without the locks of tx
abbrev pub released : LockTable → ℕ → LockTable
released table tx = record { held = map.remove table.held tx; max_open = table.max_open }

-- The answer to a request of tx for page q: the lock is held exactly where all other holders go
-- with it; else the lowest that does not is told, and nothing changes.
abbrev pub Answers : LockTable → ℕ → ℕ → Mode → Grant → LockTable → Type 0
Answers old tx q mode Held new = IsNobody (conflicts old tx q mode) × (new ≡ granted old tx q mode)
Answers old tx q mode (Waiting by) new = IsLowest (conflicts old tx q mode) by × (new ≡ old)
