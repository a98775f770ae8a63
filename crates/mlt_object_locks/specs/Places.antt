-- The places at which operations stand, and those at which a requested one looks for others.
use Rattle.std.specs.Prelude.{ℕ, ◌+◌, ◌*◌, ◌^◌, List, [], ◌∷◌, map, Option, None, Some, Contains}
use Rattle.mlt_types.specs.{declared.cell.Cell.Cell, declared.cell.Cell.TheVariants.Account, declared.cell.Cell.TheVariants.Element, declared.cell.Cell.TheVariants.Counter, declared.cell.Cell.TheVariants.Size, Cells.key_number}
use Rattle.mlt_object_kinds.specs.{declared.operation.ObjOp.ObjOp, declared.operation.ObjReply.ObjReply, Operations.cell_of, Operations.cells_of}
use Rattle.mlt_object_locks.specs.Locks.{reservation_of}

-- the place of all that stands on elements of a set, which is the number of no key
abbrev pub place_of_set : ℕ → ℕ
place_of_set s = 5 * 2 ^ 48 + s

-- Where an operation on the cell stands: at the number of its key, and one on an element at its set's place too.
abbrev pub places_of : Cell → List ℕ
places_of (Account a) = key_number (Account a) ∷ []
places_of (Element s e) = key_number (Element s e) ∷ place_of_set s ∷ []
places_of (Counter c) = key_number (Counter c) ∷ []
places_of (Size s) = key_number (Size s) ∷ []

-- Where those stand with which the operation may clash: at the keys of the cells on which it is locked. One that asks for a
-- size looks at its set's place instead, since it never clashes with its like.
abbrev pub looked_at : ObjOp → List ℕ
looked_at (ObjOp.Size s) = place_of_set s ∷ []
looked_at other = map key_number (cells_of other)

-- the places of a cell, if there is one
abbrev pub places_if_any : Option Cell → List ℕ
places_if_any None = []
places_if_any (Some cell) = places_of cell

-- the places of the cell that the transaction reserved
abbrev pub reserved_places : List (ℕ × Cell) → ℕ → List ℕ
reserved_places reserved tx = places_if_any (reservation_of reserved tx)

-- the operation stands at a place at which the requested one looks
abbrev pub SharesPlace : ObjOp × ObjReply → ObjOp × ObjReply → Type 0
SharesPlace earlier requested =
    (place : ℕ) × Contains (places_of (cell_of earlier.0)) place × Contains (looked_at requested.0) place
