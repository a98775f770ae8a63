use Rattle.mlt_trace_check.proofs.PlainItems.{back_item}
use Rattle.mlt_trace_check.proofs.plain.back.Goals as goal

pub returns : goal.returns
returns c = back_item _ _ _ _ c.in_ok-tx.ensures c.in_ok-rest.ensures.some
