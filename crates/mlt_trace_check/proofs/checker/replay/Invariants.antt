use Rattle.std.proofs.Common.{take}
use Rattle.mlt_trace_check.proofs.Names.{Step, Runs, dones}
use Rattle.mlt_trace_check.proofs.checker.replay.Given as goal

abbrev pub invariant-loop-line : goal.invariant-loop-line
invariant-loop-line l = Runs Step l.fn.base (dones (take l.line-index l.ops)) l.base
