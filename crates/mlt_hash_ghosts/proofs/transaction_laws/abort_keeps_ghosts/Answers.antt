use Rattle.mlt_hash_ghosts.proofs.Transactions.{abort_law}
use Rattle.mlt_hash_ghosts.proofs.transaction_laws.abort_keeps_ghosts.Goals as goal

pub returns : goal.returns
returns c = abort_law
