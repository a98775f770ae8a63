use Rattle.mlt_hash_ghosts.proofs.Transactions.{free_file}
use Rattle.mlt_hash_ghosts.proofs.transaction_laws.file_without_ghosts.Goals as goal

pub returns : goal.returns
returns c = free_file
