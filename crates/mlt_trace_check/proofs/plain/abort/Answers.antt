use Rattle.mlt_trace_check.proofs.PlainItems.{abort_item}
use Rattle.mlt_trace_check.proofs.plain.abort.Goals as goal

pub returns : goal.returns
returns c = abort_item _ _ _ _ c.in_ok-tx.ensures c.in_ok-rest.ensures.some
