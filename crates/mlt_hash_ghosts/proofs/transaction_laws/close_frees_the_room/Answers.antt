use Rattle.mlt_hash_ghosts.proofs.Transactions.{close_law}
use Rattle.mlt_hash_ghosts.proofs.transaction_laws.close_frees_the_room.Goals as goal

pub returns : goal.returns
returns c = close_law
