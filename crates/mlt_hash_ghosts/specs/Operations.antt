-- What transactions did to the presence of keys
use Rattle.std.specs.Prelude.{ℕ, ◌≡◌, List, [], ◌∷◌, ◌++◌, Option, Some, None}
use Rattle.std.specs.List.{last_or}

-- an operation on a key's presence: it added the record of an absent key, or it removed that of a present one
pub data Presence : Type 0 where
  Added : Presence
  Removed : Presence

-- of each transaction and key: its operations on the key's presence that are not taken back, in their order
abbrev pub Standing : Type 0
Standing = ℕ → ℕ → List Presence

-- the last of the standing operations, if there is one
abbrev pub last_of : List Presence → Option Presence
last_of ps = last_or None ps

-- behind an operation that was p, if there was one, additions and removals take turns
abbrev pub TakeTurns : Option Presence → List Presence → Type 0
TakeTurns p [] = Unit {0}
TakeTurns p (q ∷ qs) = (p ≡ Some q → ⊥) × TakeTurns (Some q) qs

-- p is appended to what stands of this transaction and key, and nothing else changes. Read from `after` to
-- `before`, p is taken back, the last of them.
pub record Appends (before after : Standing) (owner key : ℕ) (p : Presence) : Type 0 where
  pub here : after owner key ≡ before owner key ++ p ∷ []
  pub others : (t k : ℕ) → (t ≡ owner → k ≡ key → ⊥) → after t k ≡ before t k
