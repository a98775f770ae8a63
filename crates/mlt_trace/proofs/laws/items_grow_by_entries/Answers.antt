use Rattle.std.proofs.Common.{[], ◌∷◌}
use Rattle.mlt_trace.proofs.ItemLaws.{entries_of-append}
use Rattle.mlt_trace.proofs.laws.items_grow_by_entries.Goals as goal

pub returns : goal.returns
returns c = λ items item. entries_of-append items (item ∷ [])
