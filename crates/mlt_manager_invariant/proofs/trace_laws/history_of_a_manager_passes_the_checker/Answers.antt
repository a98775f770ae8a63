use Rattle.mlt_manager_invariant.proofs.TraceStays.{text_accepted, text_accepted_where_nobody_is_open}
use Rattle.mlt_manager_invariant.proofs.trace_laws.history_of_a_manager_passes_the_checker.Goals as goal

pub returns : goal.returns
returns c = record { accepted = text_accepted; nobody_open = text_accepted_where_nobody_is_open }
