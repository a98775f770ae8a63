-- What is copied from a base, cell by cell, by slots that mean what it holds.
use Rattle.std.specs.Prelude.{ℕ, ◌≡◌, ◌⊎◌, List, None, Some, Contains}
use Rattle.mlt_types.specs.{declared.cell.Cell.Cell, Cells.IsInRange, Cells.key_number}
use Rattle.mlt_object_kinds.specs.Bases.{Base, state_at}
use Rattle.mlt_object_base.specs.Records.{IsRecord, state_of_record}
use Rattle.mlt_page.specs.declared.slot.Slot.{Slot, TheVariants.Live}

-- each cell holds in the part what it does in the whole base, or nothing
abbrev pub IsPartOf : Base → Base → Type 0
IsPartOf part whole =
    (cell : Cell)
    → (state_at part cell ≡ state_at whole cell) ⊎ (state_at part cell ≡ state_of_record cell None)

-- a live slot of the cell has this value
abbrev pub HasLive : List Slot → Cell → ℕ → Type 0
HasLive slots cell value = Contains slots (Live (key_number cell) value)

-- the slots are of this base: each live slot of a cell has a value that the cell's record can have, and means what the base
-- holds in the cell
abbrev pub AreSlotsOf : List Slot → Base → Type 0
AreSlotsOf slots base =
    (cell : Cell) (value : ℕ) → IsInRange cell → HasLive slots cell value
    → IsRecord cell (Some value) × (state_at base cell ≡ state_of_record cell (Some value))

-- Each cell of a live slot holds now what it does in the whole base. What held that before holds it still, and any other cell
-- holds that or nothing.
pub record CopiesSlots (slots : List Slot) (old new whole : Base) : Type 0 where
  pub copied : (cell : Cell) (value : ℕ) → IsInRange cell → HasLive slots cell value
      → state_at new cell ≡ state_at whole cell
  pub stays : (cell : Cell) → state_at old cell ≡ state_at whole cell
      → state_at new cell ≡ state_at whole cell
  pub part : IsPartOf new whole
