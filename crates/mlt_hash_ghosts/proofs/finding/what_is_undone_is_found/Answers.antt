use Rattle.mlt_hash_ghosts.proofs.GhostLookup.{undone_found}
use Rattle.mlt_hash_ghosts.proofs.finding.what_is_undone_is_found.Goals as goal

pub returns-clause-added : goal.returns-clause-added
returns-clause-added c = λ ledger owner key matches form is_open. (undone_found ledger owner key matches form is_open).0

pub returns-clause-removed : goal.returns-clause-removed
returns-clause-removed c = λ ledger owner key matches form is_open. (undone_found ledger owner key matches form is_open).1
