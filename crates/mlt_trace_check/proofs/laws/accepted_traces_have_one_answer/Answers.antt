use Rattle.mlt_trace_check.proofs.Exactness.{accepted_once, accepted_or_faulty}
use Rattle.mlt_trace_check.proofs.laws.accepted_traces_have_one_answer.Goals as goal

pub returns : goal.returns
returns c = record { one = accepted_once; no_fault = accepted_or_faulty }
