use Rattle.mlt_object_conflicts.proofs.ElementExact.{element_exact}
use Rattle.mlt_object_conflicts.proofs.elements.ElementTable.conflicts.Goals as goal

pub returns-clause-exact : goal.returns-clause-exact
returns-clause-exact c = rw c.is_marked.ensures (element_exact c.args.held c.args.requested)
