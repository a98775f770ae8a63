use Rattle.mlt_hash_pair.proofs.Laws.{owners_close}
use Rattle.mlt_hash_pair.proofs.pair_laws.closed_owners_keep_the_pair.Goals as goal

pub returns : goal.returns
returns c = owners_close
