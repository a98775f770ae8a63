use Rattle.mlt_trace_check.proofs.PlainItems.{done_begins}
use Rattle.mlt_trace_check.proofs.plain.front_done.Goals as goal

pub returns : goal.returns
returns c = done_begins _ _ _ _ _ _ c.in_ok-op.ensures c.in_ok-after.ensures.some c.in_ok-reply.ensures
