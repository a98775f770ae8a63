use Rattle.mlt_hash_pair.proofs.Laws.{both_there}
use Rattle.mlt_hash_pair.proofs.pair_laws.what_was_found_stays_there.Goals as goal

pub returns : goal.returns
returns c = both_there
