use Rattle.std.proofs.Common.{◌++◌}
use Rattle.mlt_trace.proofs.history.History.hand_out.Given as goal

abbrev pub ghost-of : goal.ghost-of
ghost-of a = a.first.now.items ++ a.second.now.items
