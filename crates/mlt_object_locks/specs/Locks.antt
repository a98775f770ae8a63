-- What is held and reserved, and who stands in the way of whom.
use Rattle.std.specs.Prelude.{Bool, not, nat_eq, nat_lt, ◌≡◌, ◌≢◌, ℕ, ◌≤◌, List, [], ◌∷◌, ◌++◌, Option, None, Some, Result, OnOk, OnErr, IfErr, IsTrue, Contains, if◌then◌else◌, ◌==◌}
use Rattle.mlt_types.specs.declared.cell.Cell.{Cell}
use Rattle.mlt_object_kinds.specs.declared.operation.{ObjOp.ObjOp, ObjReply.ObjReply}
use Rattle.mlt_object_conflicts.specs.Clashes.{clashes}

-- an operation with its reply, and the number of the transaction that holds it
abbrev pub Held : Type 0
Held = ℕ × (ObjOp × ObjReply)

-- what is held, in the order of the grants, and the cells that are reserved, each with its transaction's number
pub record Locks : Type 0 where
  pub held : List Held
  pub reserved : List (ℕ × Cell)

-- nothing is held, and nothing reserved
abbrev pub no_locks : Locks
no_locks = record { held = []; reserved = [] }

-- the cell that the transaction of a number reserved
abbrev pub reservation_of : List (ℕ × Cell) → ℕ → Option Cell
reservation_of [] tx = None
reservation_of (entry ∷ entries) tx = if entry.0 == tx then Some entry.1 else reservation_of entries tx

-- all other transactions have the same reservations
abbrev pub SameReservations : List (ℕ × Cell) → List (ℕ × Cell) → ℕ → Type 0
SameReservations before after tx = (other : ℕ) → other ≢ tx → reservation_of after other ≡ reservation_of before other

-- another transaction, of this number, holds an operation with which the requested one clashes
abbrev pub HoldsClash : List Held → ℕ → ObjOp × ObjReply → ℕ → Type 0
HoldsClash held tx requested holder =
    (holder ≢ tx) × ((earlier : ObjOp × ObjReply) × Contains held (holder, earlier) × IsTrue (clashes earlier requested))

-- the lowest number of another transaction that holds an operation with which the requested one
-- clashes
abbrev pub IsLowestClash : List Held → ℕ → ObjOp × ObjReply → ℕ → Type 0
IsLowestClash held tx requested holder =
    HoldsClash held tx requested holder × ((other : ℕ) → HoldsClash held tx requested other → holder ≤ other)

-- the lowest number of which something holds, or none where there is none
abbrev pub IsLowestOf : (ℕ → Type 0) → Option ℕ → Type 0
IsLowestOf Stands None = (number : ℕ) → Stands number → ⊥
IsLowestOf Stands (Some lowest) = Stands lowest × ((number : ℕ) → Stands number → lowest ≤ number)

-- the lower of two numbers, of which one may be missing
abbrev pub lower_of : Option ℕ → ℕ → ℕ
lower_of None holder = holder
lower_of (Some other) holder = if nat_lt other holder then other else holder

-- the entry is not of the transaction of this number
abbrev pub is_of_other : {X : Type 0} → ℕ → ℕ × X → Bool
is_of_other tx entry = not (nat_eq entry.0 tx)

-- the transaction reserved the cell, in place of the one that it had reserved before, or nothing changed
pub record Reserves {E : Type 0} (old new : Locks) (tx : ℕ) (cell : Cell) (result : Result (Unit {0}) E) : Type 0 where
  pub held : new.held ≡ old.held
  pub reserved : OnOk result (reservation_of new.reserved tx ≡ Some cell)
  pub others : SameReservations old.reserved new.reserved tx
  pub err : OnErr result (new ≡ old)

-- The transaction was granted the operation, with which none of another transaction clashes, and has no reservation; or the
-- lowest of those that hold one that does was answered, and nothing changed.
pub record IsAnswered (old new : Locks) (tx : ℕ) (done : ObjOp × ObjReply) (result : Result (Unit {0}) ℕ) : Type 0 where
  pub free : OnOk result ((holder : ℕ) → HoldsClash old.held tx done holder → ⊥)
  pub granted : OnOk result (new.held ≡ old.held ++ (tx, done) ∷ [])
  pub used : OnOk result (reservation_of new.reserved tx ≡ None)
  pub others : SameReservations old.reserved new.reserved tx
  pub lowest : IfErr result (λ holder. IsLowestClash old.held tx done holder)
  pub err : OnErr result (new ≡ old)
