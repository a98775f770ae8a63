use Rattle.std.proofs.Common.{◌++◌}
use Rattle.mlt_serve_session.proofs.tally.TallyReceipts.take_in.Given as goal

abbrev pub ghost-of : goal.ghost-of
ghost-of a = a.first.now.items ++ a.second.now.items
