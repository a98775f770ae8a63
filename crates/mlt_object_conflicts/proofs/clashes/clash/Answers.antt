use Rattle.mlt_object_conflicts.proofs.BaseBreaks.{clash_exact}
use Rattle.mlt_object_conflicts.proofs.clashes.clash.Goals as goal

pub returns-clause-exact : goal.returns-clause-exact
returns-clause-exact c = rw c.is_marked.ensures (clash_exact c.args.held.now c.args.requested.now)
