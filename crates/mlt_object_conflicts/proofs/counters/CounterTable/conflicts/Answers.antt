use Rattle.mlt_object_conflicts.proofs.CounterExact.{counter_exact}
use Rattle.mlt_object_conflicts.proofs.counters.CounterTable.conflicts.Goals as goal

pub returns-clause-exact : goal.returns-clause-exact
returns-clause-exact c = rw c.is_marked.ensures (counter_exact c.args.held c.args.requested)
