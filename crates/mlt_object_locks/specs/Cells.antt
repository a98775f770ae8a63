-- The holders at all places, and what ties them to what is held, reserved and noted.
use Rattle.std.specs.Prelude.{ℕ, ◌≡◌, ◌≢◌, ◌*◌, ◌≤◌, ◌⊎◌, nat_eq, List, [], Option, Some, unwrap_or, length, Contains}
use Rattle.indexmap.specs.IndexMap.{IndexMap, IsUnique, get}
use Rattle.mlt_types.specs.{declared.cell.Cell.Cell, Cells.IsInRange}
use Rattle.mlt_object_kinds.specs.{declared.operation.ObjOp.ObjOp, declared.operation.ObjReply.ObjReply, Operations.cell_of}
use Rattle.mlt_object_locks.specs.{declared.holders.Holder.Holder, Locks.Held, Locks.reservation_of, Classes.bit_of_item, Holders.IsHere, Holders.HasBit, Holders.StandsAgainst, Holders.holder_of, Noted.KeysWithRoom, Noted.held_count, Noted.noted_of, Places.places_of, Places.reserved_places}

-- the list at a key, with no element where there is none
abbrev pub list_at : {X S : Type 0} → IndexMap ℕ (List X) S → ℕ → List X
list_at lists key = unwrap_or (get nat_eq lists key) []

-- the key has no entry with an empty list
abbrev pub HasHolderIfThere : {X S : Type 0} → IndexMap ℕ (List X) S → ℕ → Type 0
HasHolderIfThere lists key = get nat_eq lists key ≡ Some [] → ⊥

-- only the list at one key may change
pub record ChangesAt {X S : Type 0} (old new : IndexMap ℕ (List X) S) (key : ℕ) : Type 0 where
  pub same : (other : ℕ) → other ≢ key → list_at new other ≡ list_at old other
  pub unique : IsUnique nat_eq new

-- The transaction came at some of these places, or was there; all else stays.
pub record JoinsAt {S : Type 0} (old new : IndexMap ℕ (List Holder) S) (places : List ℕ) (tx : ℕ) : Type 0 where
  pub unique : IsUnique nat_eq new
  pub keeps : (k : ℕ) (holder : Holder) → Contains (list_at old k) holder → Contains (list_at new k) holder
  pub only : (k : ℕ) (holder : Holder) → Contains (list_at new k) holder
      → Contains (list_at old k) holder ⊎ (Contains places k × (holder ≡ holder_of tx 0))

-- the transaction is one of the holders at each of these places
abbrev pub IsHereAt : {S : Type 0} → IndexMap ℕ (List Holder) S → List ℕ → ℕ → Type 0
IsHereAt cells places tx = (k : ℕ) → Contains places k → IsHere (list_at cells k) tx

-- one of the first places, and none of those to keep
abbrev pub IsGivenUp : List ℕ → List ℕ → ℕ → Type 0
IsGivenUp places kept k = Contains places k × (Contains kept k → ⊥)

-- The transaction is gone at the first places that are none of those to keep, unless it holds something there; all others
-- stay.
pub record GivesUp {S : Type 0} (old new : IndexMap ℕ (List Holder) S) (places kept : List ℕ) (tx : ℕ) : Type 0 where
  pub unique : IsUnique nat_eq new
  pub only : (k : ℕ) (holder : Holder) → Contains (list_at new k) holder → Contains (list_at old k) holder
  pub gone : (k : ℕ) (holder : Holder) → Contains (list_at new k) holder
      → holder.tx ≡ tx → IsGivenUp places kept k → holder.classes ≢ 0
  pub keeps : (k : ℕ) (holder : Holder)
      → (holder.tx ≡ tx → IsGivenUp places kept k → holder.classes ≢ 0)
      → Contains (list_at old k) holder → Contains (list_at new k) holder

-- the transaction got the bit at these places, if there is one, and nothing else changed
pub record GrantsAt {S : Type 0} (old new : IndexMap ℕ (List Holder) S) (places : List ℕ) (tx : ℕ) (bit : Option ℕ)
    : Type 0 where
  pub unique : IsUnique nat_eq new
  pub granted : (k n : ℕ) → Contains places k → bit ≡ Some n → HasBit (list_at new k) tx n
  pub keeps : (k u n : ℕ) → HasBit (list_at old k) u n → HasBit (list_at new k) u n
  pub only : (k u n : ℕ) → HasBit (list_at new k) u n
      → HasBit (list_at old k) u n ⊎ (Contains places k × (u ≡ tx) × (bit ≡ Some n))
  pub stays : (k u : ℕ) → IsHere (list_at old k) u → IsHere (list_at new k) u
  pub here : (k u : ℕ) → IsHere (list_at new k) u → IsHere (list_at old k) u

-- another transaction, of this number, holds something at one of these places that hinders the requested operation
abbrev pub StandsAtOne : {S : Type 0} → IndexMap ℕ (List Holder) S → List ℕ → ℕ → ObjOp × ObjReply → ℕ → Type 0
StandsAtOne cells places tx requested number =
    (place : ℕ) × Contains places place × StandsAgainst (list_at cells place) tx requested number

-- a transaction is gone at these places, and all others are as they were
pub record ReleasesAt {S : Type 0} (old new : IndexMap ℕ (List Holder) S) (keys : List ℕ) (tx : ℕ) : Type 0 where
  pub only : (key : ℕ) (holder : Holder) → Contains (list_at new key) holder → Contains (list_at old key) holder
  pub gone : (key : ℕ) (holder : Holder) → Contains keys key → Contains (list_at new key) holder → holder.tx ≢ tx
  pub keeps : (key : ℕ) (holder : Holder) → holder.tx ≢ tx → Contains (list_at old key) holder → Contains (list_at new key) holder
  pub unique : IsUnique nat_eq new

-- a place is noted of a transaction that has a class there
abbrev pub AreBitsNoted : {S : Type 0} → IndexMap ℕ (List Holder) S → List (ℕ × KeysWithRoom) → Type 0
AreBitsNoted cells noted =
    (key tx bit : ℕ) → HasBit (list_at cells key) tx bit → Contains (noted_of noted tx).keys key

-- the transaction holds an operation whose class has this bit, and which stands at this place
abbrev pub HoldsBit : List Held → ℕ → ℕ → ℕ → Type 0
HoldsBit held key tx bit =
    (done : ObjOp × ObjReply) × Contains held (tx, done) × Contains (places_of (cell_of done.0)) key × (bit_of_item done ≡ Some bit)

-- Each place has the classes of what is held there. Each transaction that reserved a cell is one of the holders at each of
-- its places, with room for these to be noted; and where one is a holder, it reserved a cell of that place, or the place is
-- noted of it. No more places are noted of a transaction than two for each operation that it holds.
pub record IsSound {S : Type 0} (cells : IndexMap ℕ (List Holder) S)
    (reserved : List (ℕ × Cell)) (noted : List (ℕ × KeysWithRoom)) (held : List Held)
    : Type 0 where
  pub unique : IsUnique nat_eq cells
  pub in_range : (tx : ℕ) (done : ObjOp × ObjReply) → Contains held (tx, done) → IsInRange (cell_of done.0)
  pub has : (key tx bit : ℕ) → HoldsBit held key tx bit → HasBit (list_at cells key) tx bit
  pub only : (key tx bit : ℕ) → HasBit (list_at cells key) tx bit → HoldsBit held key tx bit
  pub opened : (tx : ℕ) → IsHereAt cells (reserved_places reserved tx) tx
  pub room : (tx : ℕ) (cell : Cell) → reservation_of reserved tx ≡ Some cell → 2 ≤ (noted_of noted tx).room
  pub bits_noted : AreBitsNoted cells noted
  pub found : (key tx : ℕ) → IsHere (list_at cells key) tx
      → Contains (reserved_places reserved tx) key ⊎ Contains (noted_of noted tx).keys key
  pub few : (tx : ℕ) → length (noted_of noted tx).keys ≤ 2 * held_count held tx
