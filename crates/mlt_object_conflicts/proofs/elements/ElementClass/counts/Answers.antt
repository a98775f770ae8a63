use Rattle.mlt_object_conflicts.proofs.SizeBreaks.{counts_exact}
use Rattle.mlt_object_conflicts.proofs.elements.ElementClass.counts.Goals as goal

pub returns-clause-exact : goal.returns-clause-exact
returns-clause-exact c = rw c.is_counted.ensures (counts_exact c.args.self)
