use Rattle.std.proofs.Common.{take}
use Rattle.mlt_trace_audit.specs.Telling.{HasTold}
use Rattle.mlt_trace_audit.proofs.any.is_of_history.Given as goal

abbrev pub invariant-loop-item : goal.invariant-loop-item
invariant-loop-item l = HasTold l.outcome (take l.item-index l.history) l.progress
