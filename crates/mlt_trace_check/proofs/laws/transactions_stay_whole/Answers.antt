use Rattle.mlt_trace_check.proofs.Places.{whole_begin, whole_more}
use Rattle.mlt_trace_check.proofs.laws.transactions_stay_whole.Goals as goal

pub returns : goal.returns
returns c = record { other = whole_more; begin = whole_begin }
