use Rattle.mlt_trace_audit.proofs.CommittedList.{base_of_outcomes, committed_outcomes}
use Rattle.mlt_trace_audit.proofs.laws.committed_outcomes_are_the_committed_list.Goals as goal

pub returns-clause-list : goal.returns-clause-list
returns-clause-list c = λ outcomes items placed order agrees. committed_outcomes outcomes items placed agrees

pub returns-clause-base : goal.returns-clause-base
returns-clause-base c = λ outcomes items base placed order agrees serial. base_of_outcomes outcomes items placed agrees base serial
