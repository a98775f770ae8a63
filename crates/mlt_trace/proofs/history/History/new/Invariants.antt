use Rattle.std.proofs.Common.{[]}
use Rattle.mlt_trace.proofs.history.History.new.Given as goal

abbrev pub ghost-of : goal.ghost-of
ghost-of a = []
