-- The rooms that the entries of a table have, added up.
use Rattle.std.specs.Prelude.{ℕ, sum_by}
use Rattle.std.specs.Ordering.{nat_cmp}
use Rattle.std.specs.FinMap as map

-- the rooms of all entries, where each has the room that the function says
abbrev pub total_room : {X : Type 0} → (X → ℕ) → map.FinMap nat_cmp X → ℕ
total_room room_of table = sum_by room_of (map.values table)
