-- What numbers items can have.
use Rattle.std.specs.Prelude.{◌<◌, ◌^◌, List, Contains}
use Rattle.mlt_object_kinds.specs.Ranges.{FitsDone}
use Rattle.mlt_trace.specs.declared.item.TraceItem.{TraceItem}
use Rattle.mlt_trace.specs.declared.item.TraceItem.TheVariants.{Begin, Op, Back, Commit, Abort}

-- the numbers of an item are those of their types
abbrev pub FitsItem : TraceItem → Type 0
FitsItem (Begin tx) = tx < 2 ^ 64
FitsItem (Op tx done) = (tx < 2 ^ 64) × FitsDone done
FitsItem (Back tx) = tx < 2 ^ 64
FitsItem (Commit tx number) = (tx < 2 ^ 64) × (number < 2 ^ 64)
FitsItem (Abort tx) = tx < 2 ^ 64

-- the numbers of all items are those of their types
abbrev pub AllFit : List TraceItem → Type 0
AllFit items = (item : TraceItem) → Contains items item → FitsItem item
