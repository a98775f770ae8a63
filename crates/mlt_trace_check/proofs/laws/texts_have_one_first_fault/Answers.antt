use Rattle.mlt_trace_check.proofs.Names.{lines}
use Rattle.mlt_trace_check.proofs.Faults.{one_first_fault}
use Rattle.mlt_trace_check.proofs.laws.texts_have_one_first_fault.Goals as goal

pub returns : goal.returns
returns c = λ text. one_first_fault (lines text)
