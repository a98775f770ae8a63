-- What is copied of a manager under the lock
use Rattle.std.specs.Prelude.{ℕ, ◌≡◌, List, ◌++◌, drop, take}
use Rattle.mlt_trace.specs.{HistoryItems.ItemsWithRoom, declared.item.TraceItem.TraceItem}

-- of the items that were not handed out, those from this place on are added, at most so many
pub record AddsKept (from most : ℕ) (history : ItemsWithRoom) (old new : List TraceItem) : Type 0 where
  pub kept : List TraceItem
  pub whole : history.items ≡ history.handed ++ kept
  pub added : new ≡ old ++ take most (drop from kept)
