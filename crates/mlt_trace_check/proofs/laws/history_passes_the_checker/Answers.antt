use Rattle.mlt_trace_check.proofs.Histories.{accepted, accepted_history, accepted_where_nothing_is_open}
use Rattle.mlt_trace_check.proofs.laws.history_passes_the_checker.Goals as goal

pub returns : goal.returns
returns c = record { committed = accepted; history = accepted_history; nothing_open = accepted_where_nothing_is_open }
