-- The places at which transactions hold something, and the room to note more.
use Rattle.std.specs.Prelude.{ℕ, ◌≡◌, ◌≢◌, ◌+◌, ◌≤◌, nat_eq, Bool, List, [], length, unwrap_or, Contains, filter}
use Rattle.mlt_object_locks.specs.{Locks.Held, Entries.value_of}

-- the numbers of places, and for how many more there is room
pub record KeysWithRoom : Type 0 where
  pub keys : List ℕ
  pub room : ℕ

-- no place, and no room
abbrev pub nothing_noted : KeysWithRoom
nothing_noted = record { keys = []; room = 0 }

-- what is noted of the transaction
abbrev pub noted_of : List (ℕ × KeysWithRoom) → ℕ → KeysWithRoom
noted_of noted tx = unwrap_or (value_of noted tx) nothing_noted

-- of all other transactions the same is noted
abbrev pub SameNoted : List (ℕ × KeysWithRoom) → List (ℕ × KeysWithRoom) → ℕ → Type 0
SameNoted old new tx = (other : ℕ) → other ≢ tx → noted_of new other ≡ noted_of old other

-- the same places are noted, and where there was room for those of a cell there still is
pub record KeepsNoted (old new : List (ℕ × KeysWithRoom)) : Type 0 where
  pub keys : (tx : ℕ) → (noted_of new tx).keys ≡ (noted_of old tx).keys
  pub room : (tx : ℕ) → 2 ≤ (noted_of old tx).room → 2 ≤ (noted_of new tx).room

-- this place is among them, and at most it is new
pub record NotesAtMost (old new : List ℕ) (key : ℕ) : Type 0 where
  pub there : Contains new key
  pub keeps : (k : ℕ) → Contains old k → Contains new k
  pub few : length new ≤ length old + 1

-- these places are among them, and at most they are new
pub record NotesEach (old new places : List ℕ) : Type 0 where
  pub there : (k : ℕ) → Contains places k → Contains new k
  pub keeps : (k : ℕ) → Contains old k → Contains new k
  pub few : length new ≤ length old + length places

-- the transaction holds this
abbrev pub is_held_by : ℕ → Held → Bool
is_held_by tx held = nat_eq held.0 tx

-- how many operations the transaction holds
abbrev pub held_count : List Held → ℕ → ℕ
held_count held tx = length (filter (is_held_by tx) held)
