-- Finite maps with one entry changed.
use Rattle.std.specs.Prelude.{Option, None, Some}
use Rattle.std.specs.declared.cmp.Ordering.{Ordering}
use Rattle.std.specs.FinMap as map

-- the map with this at the key, or with nothing there
abbrev pub with_entry : {K X : Type 0} {R : K → K → Ordering} → map.FinMap R X → K → Option X → map.FinMap R X
with_entry m k None = map.remove m k
with_entry m k (Some x) = map.insert m k x
