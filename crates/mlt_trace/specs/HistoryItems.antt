-- What a history is seen as.
use Rattle.std.specs.Prelude.{ℕ, List}
use Rattle.mlt_trace.specs.declared.item.TraceItem.{TraceItem}

-- all items, in order; the first of them that were handed out, which no code keeps; and for how many more there is room
pub record ItemsWithRoom : Type 0 where
  pub items : List TraceItem
  pub handed : List TraceItem
  pub room : ℕ
