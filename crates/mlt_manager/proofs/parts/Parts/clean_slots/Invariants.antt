use Rattle.std.proofs.Common.{ℕ, ◌≤◌, ◌*◌}
use Rattle.mlt_manager.proofs.Names.{fields_of}
use Rattle.mlt_manager.specs.Images.{HasSlotsBelow}
use Rattle.mlt_manager.proofs.parts.Parts.clean_slots.Given as goal

-- the slots of the buckets at the first places are listed, those of so many pages of the directory
abbrev pub invariant-loop-number : goal.invariant-loop-number
invariant-loop-number g l = (count : ℕ) → count ≤ l.number * 256 → count ≤ l.places → HasSlotsBelow (fields_of l.self) l.slots.items count

-- and at the first places of this page
abbrev pub invariant-loop-place : goal.invariant-loop-place
invariant-loop-place g l = HasSlotsBelow (fields_of l.self) l.slots.items l.place
