use Rattle.mlt_object_conflicts.proofs.AccountExact.{account_exact}
use Rattle.mlt_object_conflicts.proofs.accounts.AccountTable.conflicts.Goals as goal

pub returns-clause-exact : goal.returns-clause-exact
returns-clause-exact c = rw c.is_marked.ensures (account_exact c.args.held c.args.requested)
