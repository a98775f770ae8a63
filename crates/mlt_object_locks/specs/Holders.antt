-- Those who hold something at one place, or have reserved a cell of it.
use Rattle.std.specs.Prelude.{ℕ, ◌≡◌, ◌≢◌, ◌⊎◌, ◌&&◌, Bool, not, nat_eq, List, Option, Some, AllPairs, Contains}
use Rattle.mlt_object_locks.specs.{declared.holders.Holder.Holder, Locks.IsLowestOf, Classes.Hinders, Classes.InSet, Classes.Meets}
use Rattle.mlt_object_kinds.specs.declared.operation.{ObjOp.ObjOp, ObjReply.ObjReply}

-- a transaction, with the set of the classes that it holds
abbrev pub holder_of : ℕ → ℕ → Holder
holder_of tx classes = record { tx = tx; classes = classes }

-- each transaction is there once
abbrev pub AreOnce : List Holder → Type 0
AreOnce holders = AllPairs (λ one other. one.tx ≢ other.tx) holders

-- the transaction is one of them
abbrev pub IsHere : List Holder → ℕ → Type 0
IsHere holders tx = (classes : ℕ) × Contains holders (holder_of tx classes)

-- and holds an operation whose class has this bit
abbrev pub HasBit : List Holder → ℕ → ℕ → Type 0
HasBit holders tx bit = (classes : ℕ) × Contains holders (holder_of tx classes) × InSet classes bit

-- the set has each bit that one of them holds
abbrev pub Covers : ℕ → List Holder → Type 0
Covers set holders = (tx bit : ℕ) → HasBit holders tx bit → InSet set bit

-- each is there once, and together they hold no more than the set
pub record AreWithin (holders : List Holder) (set : ℕ) : Type 0 where
  pub once : AreOnce holders
  pub covers : Covers set holders

-- the transaction came, or was there; all else stays
pub record Joins (old new : List Holder) (tx : ℕ) : Type 0 where
  pub here : IsHere new tx
  pub keeps : (holder : Holder) → Contains old holder → Contains new holder
  pub only : (holder : Holder) → Contains new holder → Contains old holder ⊎ (holder ≡ holder_of tx 0)

-- the transaction got the bit, if there is one, and nothing else changed
pub record Grants (old new : List Holder) (tx : ℕ) (bit : Option ℕ) : Type 0 where
  pub granted : (k : ℕ) → bit ≡ Some k → HasBit new tx k
  pub keeps : (u k : ℕ) → HasBit old u k → HasBit new u k
  pub only : (u k : ℕ) → HasBit new u k → HasBit old u k ⊎ ((u ≡ tx) × (bit ≡ Some k))
  pub stays : (u : ℕ) → IsHere old u → IsHere new u
  pub here : (u : ℕ) → IsHere new u → IsHere old u

-- it is another transaction, and holds something of these classes
abbrev pub StandsIn : Holder → ℕ → ℕ → Type 0
StandsIn holder tx against = (holder.tx ≢ tx) × Meets holder.classes against

-- one of them, of this number, does
abbrev pub IsInTheWay : List Holder → ℕ → ℕ → ℕ → Type 0
IsInTheWay holders tx against number =
    (number ≢ tx) × ((classes : ℕ) × Contains holders (holder_of number classes) × Meets classes against)

-- one of them, of this number, holds something that hinders the requested operation
abbrev pub StandsAgainst : List Holder → ℕ → ObjOp × ObjReply → ℕ → Type 0
StandsAgainst holders tx requested number = (number ≢ tx) × ((bit : ℕ) × HasBit holders number bit × Hinders bit requested)

-- the lowest number of one who is in the way, or none where there is none
abbrev pub IsLowestInTheWay : List Holder → ℕ → ℕ → Option ℕ → Type 0
IsLowestInTheWay holders tx against = IsLowestOf (IsInTheWay holders tx against)

-- it is the transaction
abbrev pub is_of : ℕ → Holder → Bool
is_of tx holder = nat_eq holder.tx tx

-- it is another one
abbrev pub is_not_of : ℕ → Holder → Bool
is_not_of tx holder = not (nat_eq holder.tx tx)

-- it is the transaction, and holds nothing that has a class
abbrev pub is_idle_of : ℕ → Holder → Bool
is_idle_of tx holder = nat_eq holder.tx tx && nat_eq holder.classes 0

-- and it is not
abbrev pub is_not_idle_of : ℕ → Holder → Bool
is_not_idle_of tx holder = not (is_idle_of tx holder)
