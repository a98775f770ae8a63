use Rattle.mlt_trace_check.proofs.Places.{writable}
use Rattle.mlt_trace_check.proofs.ranges.placed_items_are_writable.Goals as goal

pub returns : goal.returns
returns c = writable
