-- Which transaction holds which pages, and in which mode.
use Rattle.std.specs.Prelude.{◌≡◌, ◌≢◌, ℕ, ◌≤◌, ◌==◌, Bool, true, false, Option, None, Some, is_some, unwrap_or, List, refl}
use Rattle.std.specs.{List.list_any, Ordering.nat_cmp}
use Rattle.std.specs.Coded.{Coded, code_by, coded×, coded_ℕ, coded_bool}
use Rattle.std.specs.FinMap as map
use Rattle.mlt_types.specs.declared.mode.Mode.{Mode, TheVariants.Shared, TheVariants.Exclusive}

-- the pages that one transaction holds, each with its mode
abbrev pub Modes : Type 0
Modes = map.FinMap nat_cmp Mode

pub record LockTable : Type 0 where
  -- the pages that each transaction holds; a transaction that holds none is not there
  pub held : map.FinMap nat_cmp Modes
  -- how many transactions may hold pages at once
  pub max_open : ℕ

-- the table with no lock, for this many transactions
abbrev pub no_locks : ℕ → LockTable
no_locks max_open = record { held = map.empty; max_open = max_open }

-- the pages that tx holds
abbrev pub pages_of : LockTable → ℕ → Modes
pages_of table tx = unwrap_or (map.get table.held tx) map.empty

-- whether tx holds a page
abbrev pub is_holder : LockTable → ℕ → Bool
is_holder table tx = is_some (map.get table.held tx)

-- the mode in which tx holds page q, if it does
abbrev pub mode_held : LockTable → ℕ → ℕ → Option Mode
mode_held table tx q = map.get (pages_of table tx) q

-- how many pages tx holds
abbrev pub page_count : LockTable → ℕ → ℕ
page_count table tx = map.len (pages_of table tx)

-- whether tx may read page q: it holds it
abbrev pub can_read : LockTable → ℕ → ℕ → Bool
can_read table tx q = is_some (mode_held table tx q)

abbrev pub is_exclusive : Mode → Bool
is_exclusive Shared = false
is_exclusive Exclusive = true

abbrev pub allows_write : Option Mode → Bool
allows_write None = false
allows_write (Some mode) = is_exclusive mode

-- whether tx may write page q: it holds it exclusively
abbrev pub can_write : LockTable → ℕ → ℕ → Bool
can_write table tx q = allows_write (mode_held table tx q)

-- only Shared goes with Shared
abbrev pub goes_with : Mode → Mode → Bool
goes_with Shared Shared = true
goes_with Shared Exclusive = false
goes_with Exclusive mode = false

-- who may write a page is the only one who may read it
abbrev pub AreCompatible : LockTable → Type 0
AreCompatible table = (t u q : ℕ) → can_write table t q ≡ true → can_read table u q ≡ true → t ≡ u

-- every transaction but tx holds what it held
abbrev pub KeepsOthers : ℕ → LockTable → LockTable → Type 0
KeepsOthers tx old new = (u : ℕ) → u ≢ tx → pages_of new u ≡ pages_of old u

-- at most max_open transactions hold pages, each at most 300
pub record HasRoom (table : LockTable) : Type 0 where
  pub holders : map.len table.held ≤ table.max_open
  pub pages : (tx : ℕ) → page_count table tx ≤ 300

-- at most n transactions hold pages, each at most n
pub record HasAtMost (n : ℕ) (table : LockTable) : Type 0 where
  pub holders : map.len table.held ≤ n
  pub pages : (tx : ℕ) → page_count table tx ≤ n

-- each transaction that holds a page is one of these
abbrev pub HoldersAreAmong : LockTable → List ℕ → Type 0
HoldersAreAmong table numbers =
    (tx : ℕ) → is_holder table tx ≡ true → list_any (λ n. n == tx) numbers ≡ true

abbrev pub mode_from : Bool → Mode
mode_from false = Shared
mode_from true = Exclusive

pub mode_again : (mode : Mode) → mode_from (is_exclusive mode) ≡ mode
mode_again Shared = refl
mode_again Exclusive = refl

-- a mode is stored as whether it is exclusive
abbrev pub coded_mode : Coded Mode
coded_mode = code_by Bool coded_bool is_exclusive mode_from mode_again

abbrev pub coded_modes : Coded Modes
coded_modes = map.code coded_ℕ coded_mode

-- a table is stored as its parts
abbrev pub coded_table : Coded LockTable
coded_table =
    code_by (map.FinMap nat_cmp Modes × ℕ) (coded× (map.code coded_ℕ coded_modes) coded_ℕ)
    (λ t. (t.held, t.max_open)) (λ p. record { held = p.0; max_open = p.1 }) (λ _. refl)
