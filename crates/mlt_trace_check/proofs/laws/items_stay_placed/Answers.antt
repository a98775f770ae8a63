use Rattle.mlt_trace_check.proofs.{Progressing.placed_more, Places.nothing_placed}
use Rattle.mlt_trace_check.proofs.laws.items_stay_placed.Goals as goal

pub returns : goal.returns
returns c = record { nothing = nothing_placed; one_more = placed_more }
