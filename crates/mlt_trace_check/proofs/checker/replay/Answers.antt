use Rattle.mlt_trace_check.proofs.Names.{err_from_is_err_and}
use Rattle.mlt_trace_check.proofs.Knowing.{replay_fails, replays_more}
use Rattle.mlt_trace_check.proofs.checker.replay.Goals as goal

pub returns-in_err-replay_one : goal.returns-in_err-replay_one
returns-in_err-replay_one c =
    let p = err_from_is_err_and c.from_residual.result c.from_residual.ensures.1 in
    rw (p.1, p.2) (replay_fails c.in_err-replay_one.field-0.0 c.args.base.now c.loop-line.base c.replay_one.new.base _ c.args.ops.now c.loop-line.line-index c.loop-line-item.result
    c.loop-line-test.true c.loop-line-item.is c.loop-line.invariant c.in_err-replay_one.ensures)

pub loop-line-preserved : goal.loop-line-preserved
loop-line-preserved c =
    replays_more c.args.base.now c.loop-line.base c.replay_one.new.base c.args.ops.now c.loop-line.line-index c.loop-line-item.result
    c.loop-line-test.true c.loop-line-item.is c.loop-line.invariant c.in_ok-replay_one.ensures
