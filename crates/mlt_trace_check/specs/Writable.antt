-- Items whose lines can be read again.
use Rattle.std.specs.Prelude.{◌≤◌, List, Contains}
use Rattle.mlt_trace.specs.{declared.item.TraceItem.TraceItem, Ranges.FitsItem}
use Rattle.mlt_trace.specs.declared.item.TraceItem.TheVariants.{Begin, Op, Back, Commit, Abort}

-- transactions and commits have numbers from 1 on
abbrev pub IsNumbered : TraceItem → Type 0
IsNumbered (Begin tx) = 1 ≤ tx
IsNumbered (Op tx done) = 1 ≤ tx
IsNumbered (Back tx) = 1 ≤ tx
IsNumbered (Commit tx number) = (1 ≤ tx) × (1 ≤ number)
IsNumbered (Abort tx) = 1 ≤ tx

-- the line of the item can be read again
pub record IsWritable (item : TraceItem) : Type 0 where
  pub fits : FitsItem item
  pub numbered : IsNumbered item

-- the lines of all items can be read again
abbrev pub AreWritable : List TraceItem → Type 0
AreWritable items = (item : TraceItem) → Contains items item → IsWritable item
