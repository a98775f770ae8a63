use Rattle.mlt_hash_ghosts.proofs.Transactions.{kept_by_match}
use Rattle.mlt_hash_ghosts.proofs.transaction_laws.operations_keep_ghosts.Goals as goal

pub returns : goal.returns
returns c = kept_by_match
