use Rattle.mlt_trace_check.proofs.Lines.{lines_say_items, spaced_lines_say_items}
use Rattle.mlt_trace_check.proofs.laws.written_items_are_read.Goals as goal

pub returns : goal.returns
returns c = record { whole = lines_say_items; served = spaced_lines_say_items }
