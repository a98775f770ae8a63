use Rattle.mlt_trace_check.proofs.PlainItems.{begin_item}
use Rattle.mlt_trace_check.proofs.plain.begin.Goals as goal

pub returns : goal.returns
returns c = begin_item _ _ _ _ c.in_ok-tx.ensures c.in_ok-rest.ensures.some
