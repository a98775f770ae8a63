use Rattle.mlt_hash_ghosts.proofs.Transactions.{begin_law}
use Rattle.mlt_hash_ghosts.proofs.transaction_laws.begin_keeps_ghosts.Goals as goal

pub returns : goal.returns
returns c = begin_law
