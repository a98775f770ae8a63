-- Places that are marked by numbers, and what the marks cover.
use Rattle.std.specs.Prelude.{◌≡◌, ◌≢◌, ℕ, ◌<◌, ◌≤◌, ◌-◌, ◌⊎◌, Bool, true, false, Option, Some, None, IsSome, MatchOption, is_some, position, List, length, slice_index, slice_index_or, slice_set}
use Rattle.std.specs.Int.{bit_at, Bits.bit_and}
use Rattle.std.specs.FinMap as map
use Rattle.mlt_types.specs.declared.mode.Mode.{Mode}
use Rattle.mlt_page_locks.specs.{LockTables.LockTable, Requests.conflicts, Requests.IsLowest, Requests.IsNobody, LockLists.HeldPages, LockLists.is_free, LockLists.is_list_of, LockLists.IsSound}

-- The row of a number, where there are so many: its lowest bits, where their number is a power of two. Else some rows
-- are nobody's.
abbrev pub row_of : ℕ → ℕ → ℕ
row_of count number = bit_and number (count - 1)

-- the mask in a number's row
abbrev pub mask_of : List ℕ → ℕ → ℕ
mask_of masks number = slice_index masks (row_of (length masks) number)

-- the place is marked at the number
abbrev pub IsMarked : List ℕ → ℕ → ℕ → Type 0
IsMarked masks number place = bit_at (mask_of masks number) place ≡ 1

-- the marks of all other places are kept
pub record KeepsOthers (old new : List ℕ) (place : ℕ) : Type 0 where
  pub kept : (n p : ℕ) → p < 64 → p ≢ place → IsMarked old n p → IsMarked new n p

-- each list that passes has its place in the mask
pub record InMask (lists : List HeldPages) (passes : HeldPages → Bool) (mask : ℕ) : Type 0 where
  pub marked : (place : ℕ) (d : HeldPages) → place < length lists → passes (slice_index_or lists place d) ≡ true → bit_at mask place ≡ 1

-- no place from start to below end is in the mask
abbrev pub IsUnmarked : ℕ → ℕ → ℕ → Type 0
IsUnmarked mask start end = (p : ℕ) → start ≤ p → p < end → bit_at mask p ≡ 0

-- the first place in the mask from start on, which is below end
pub record IsNextPlace (mask start end place : ℕ) : Type 0 where
  pub from_start : start ≤ place
  pub within : place < end
  pub marked : bit_at mask place ≡ 1
  pub passed_over : IsUnmarked mask start place

-- the list has this page
abbrev pub has_page : ℕ → HeldPages → Bool
has_page q pages = is_some (map.get pages.modes q)

-- each page of a list, and the transaction of one that is somebody's, is marked at its place
pub record Covers (lists : List HeldPages) (pages holders : List ℕ) : Type 0 where
  pub few : length lists ≤ 64
  pub of_pages : (q : ℕ) → InMask lists (has_page q) (mask_of pages q)
  pub of_holders : (tx : ℕ) → InMask lists (is_list_of tx) (mask_of holders tx)

-- a table of lists with its marks
pub record IsCovered (lists : List HeldPages) (pages holders : List ℕ) : Type 0 where
  pub sound : IsSound lists
  pub covers : Covers lists pages holders

-- what a search for those who have page q is given: the lists, and their places
pub record IsMaskOf (lists : List HeldPages) (q mask : ℕ) : Type 0 where
  pub few : length lists ≤ 64
  pub sound : IsSound lists
  pub marked : InMask lists (has_page q) mask

-- the lowest of those whose lock on page q does not go with one of tx, if there is one
abbrev pub IsLowestConflict : LockTable → ℕ → ℕ → Mode → Option ℕ → Type 0
IsLowestConflict table tx q mode lowest =
    MatchOption lowest (IsNobody (conflicts table tx q mode)) (IsLowest (conflicts table tx q mode))

-- no list before this place passes
abbrev pub IsNoneBefore : ℕ → (HeldPages → Bool) → List HeldPages → Type 0
IsNoneBefore start passes lists = (k : ℕ) (d : HeldPages) → k < start → passes (slice_index_or lists k d) ≡ false

-- where tx has no list, one is nobody's
abbrev pub HasPlaceFor : List HeldPages → ℕ → Type 0
HasPlaceFor lists tx = position (is_list_of tx) lists ≡ None → IsSome (position is_free lists)

-- the first list that is nobody's is that of tx from now on
pub record TakesFree (old new : List HeldPages) (tx place : ℕ) : Type 0 where
  pub first : Some place ≡ position is_free old
  pub is : new ≡ slice_set old place (record { tx = tx; modes = map.empty })

-- tx has a list at this place, or has taken one that was nobody's
abbrev pub IsPlaceFor : List HeldPages → List HeldPages → ℕ → ℕ → Type 0
IsPlaceFor old new tx place =
    ((Some place ≡ position (is_list_of tx) old) × (new ≡ old)) ⊎ ((position (is_list_of tx) old ≡ None) × TakesFree old new tx place)
