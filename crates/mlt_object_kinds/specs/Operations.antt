-- Operations, the cells that they are on, and those on which they are locked.
use Rattle.std.specs.Prelude.{List, [], ◌∷◌, Contains}
use Rattle.mlt_types.specs.declared.cell.Cell.{Cell}
use Rattle.mlt_object_kinds.specs.declared.{operation.ObjOp.ObjOp, operation.ObjOp.TheVariants.Account, operation.ObjOp.TheVariants.Element, operation.ObjOp.TheVariants.Counter, operation.ObjOp.TheVariants.Size, element.ElementOp.TheVariants.Add, element.ElementOp.TheVariants.Remove}

-- the cell that an operation is on
abbrev pub cell_of : ObjOp → Cell
cell_of (Account a op) = Cell.Account a
cell_of (Element s e op) = Cell.Element s e
cell_of (Counter c op) = Cell.Counter c
cell_of (Size s) = Cell.Size s

-- the cell of the size that an operation may change: that of the set to which it adds or from which it removes
abbrev pub size_cells : ObjOp → List Cell
size_cells (Element s e Add) = Cell.Size s ∷ []
size_cells (Element s e Remove) = Cell.Size s ∷ []
size_cells _ = []

-- The cells on which an operation is locked, at most two: the one that it is on, and that of a size that it may change.
abbrev pub cells_of : ObjOp → List Cell
cells_of op = cell_of op ∷ size_cells op

-- the two operations are locked on no cell of both
abbrev pub AreApart : ObjOp → ObjOp → Type 0
AreApart op other = (cell : Cell) → Contains (cells_of op) cell → Contains (cells_of other) cell → ⊥
