-- The table that lists of locks make.
use Rattle.std.specs.Prelude.{◌≡◌, ℕ, ◌==◌, ◌<◌, ◌≤◌, Bool, not, ◌&&◌, cond, List, [], ◌∷◌, ◌+◌, length, slice_index_or, refl}
use Rattle.std.specs.{Ordering.nat_cmp, Coded.Coded, Coded.code_by, Coded.coded×, Coded.coded_ℕ}
use Rattle.std.specs.FinMap as map
use Rattle.mlt_page_locks.specs.{declared.lock_list.PageLock.PageLock, LockTables.Modes, LockTables.LockTable, LockTables.AreCompatible, LockTables.coded_modes, Requests.with_page}
use Rattle.mlt_types.specs.declared.mode.Mode.{Mode}

-- the pages of a list of locks, each with the mode of its first lock
abbrev pub modes_of : List PageLock → Modes
modes_of [] = map.empty
modes_of (lock ∷ locks) = map.insert (modes_of locks) lock.page lock.mode

-- the page numbers rise
abbrev pub IsRising : List PageLock → Type 0
IsRising locks = (i j : ℕ) (d : PageLock) → i < j → j < length locks → (slice_index_or locks i d).page < (slice_index_or locks j d).page

-- each page is there once, by rising numbers
pub record IsInOrder (locks : List PageLock) : Type 0 where
  pub once : map.len (modes_of locks) ≡ length locks
  pub rising : IsRising locks

-- the lock at this place is on page q
pub record IsAt (locks : List PageLock) (q place : ℕ) : Type 0 where
  pub within : place < length locks
  pub on_page : (d : PageLock) → (slice_index_or locks place d).page ≡ q

-- the locks before this place are on pages below q, and all others on pages above
pub record IsBetween (locks : List PageLock) (q place : ℕ) : Type 0 where
  pub within : place ≤ length locks
  pub below : (k : ℕ) (d : PageLock) → k < place → (slice_index_or locks k d).page < q
  pub above : (k : ℕ) (d : PageLock) → place ≤ k → k < length locks → q < (slice_index_or locks k d).page

-- what is seen of one list: whose it is, and the pages that it has
pub record HeldPages : Type 0 where
  pub tx : ℕ
  pub modes : Modes

abbrev pub coded_pages : Coded HeldPages
coded_pages =
    code_by (ℕ × Modes) (coded× coded_ℕ coded_modes)
    (λ p. (p.tx, p.modes)) (λ p. record { tx = p.0; modes = p.1 }) (λ _. refl)

-- the list with page q in the stronger mode
abbrev pub with_lock : HeldPages → ℕ → Mode → HeldPages
with_lock pages q mode = record { tx = pages.tx; modes = with_page pages.modes q mode }

-- there is room for a lock on page q
abbrev pub HasRoomFor : HeldPages → ℕ → Mode → Type 0
HasRoomFor pages q mode = map.len (map.insert pages.modes q mode) ≤ 300

-- a list with no lock is nobody's
abbrev pub is_free : HeldPages → Bool
is_free pages = map.len pages.modes == 0

-- whether the list is that of tx
abbrev pub is_list_of : ℕ → HeldPages → Bool
is_list_of tx pages = pages.tx == tx && not (is_free pages)

-- what the transactions hold, by the first list of each
abbrev pub table_of : List HeldPages → map.FinMap nat_cmp Modes
table_of [] = map.empty
table_of (pages ∷ lists) =
    cond (is_free pages) (table_of lists) (map.insert (table_of lists) pages.tx pages.modes)

-- how many lists are somebody's
abbrev pub lists_in_use : List HeldPages → ℕ
lists_in_use [] = 0
lists_in_use (pages ∷ lists) = cond (is_free pages) 0 1 + lists_in_use lists

-- the table of a number of lists
abbrev pub lock_table : List HeldPages → LockTable
lock_table lists = record { held = table_of lists; max_open = length lists }

-- no transaction has two lists, and all locks go with one another
pub record IsSound (lists : List HeldPages) : Type 0 where
  pub one_list_each : map.len (table_of lists) ≡ lists_in_use lists
  pub compatible : AreCompatible (lock_table lists)
