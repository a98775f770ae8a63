use Rattle.std.proofs.Common.{refl, rules}
use Rattle.mlt_trace_check.proofs.Knowing.{false_where_other}
use Rattle.mlt_trace_check.proofs.checker.replay_one.Goals as goal

pub returns-else-eq : goal.returns-else-eq
returns-else-eq c = (refl, false_where_other c.args.base.now c.apply.new.self c.op.result c.in_ok-apply.field-0 c.args.done.now c.op.ensures c.in_ok-apply.ensures.step (search rules))
