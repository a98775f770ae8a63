use Rattle.mlt_trace_check.proofs.PlainItems.{op_item}
use Rattle.mlt_trace_check.proofs.plain.op.Goals as goal

pub returns : goal.returns
returns c = rw c.new.ensures (op_item _ _ _ _ _ _ _ c.in_ok-tx.ensures c.in_ok-after.ensures.some c.in_ok-op.ensures c.in_ok-rest.ensures.some)
