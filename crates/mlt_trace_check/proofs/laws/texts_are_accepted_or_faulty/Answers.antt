use Rattle.mlt_trace_check.proofs.Judging.{trace_or_not}
use Rattle.mlt_trace_check.proofs.laws.texts_are_accepted_or_faulty.Goals as goal

pub returns : goal.returns
returns c = trace_or_not
