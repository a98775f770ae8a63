-- Lists of entries, each of a transaction.
use Rattle.std.specs.Prelude.{Bool, nat_eq, ◌≡◌, ℕ, List, [], ◌∷◌, Option, None, Some, if◌then◌else◌, ◌==◌, ⊤}
use Rattle.mlt_types.specs.declared.cell.Cell.{Cell}

-- what the transaction of a number has in a list, where it is the first there
abbrev pub value_of : {X : Type 0} → List (ℕ × X) → ℕ → Option X
value_of [] tx = None
value_of (entry ∷ entries) tx = if entry.0 == tx then Some entry.1 else value_of entries tx

-- no transaction is there twice
abbrev pub HasEachOnce : {X : Type 0} → List (ℕ × X) → Type 0
HasEachOnce [] = ⊤
HasEachOnce (entry ∷ entries) = (value_of entries entry.0 ≡ None) × HasEachOnce entries

-- the entry is of the transaction of this number
abbrev pub is_entry_of : {X : Type 0} → ℕ → ℕ × X → Bool
is_entry_of tx entry = nat_eq entry.0 tx

-- the cells that are reserved, each with its transaction's number, and for how many more there is room
pub record CellsWithRoom : Type 0 where
  pub items : List (ℕ × Cell)
  pub room : ℕ
