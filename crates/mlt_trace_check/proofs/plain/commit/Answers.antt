use Rattle.mlt_trace_check.proofs.PlainItems.{commit_item}
use Rattle.mlt_trace_check.proofs.plain.commit.Goals as goal

pub returns : goal.returns
returns c = commit_item _ _ _ _ _ _ c.in_ok-tx.ensures c.in_ok-number.ensures c.in_ok-rest.ensures.some
