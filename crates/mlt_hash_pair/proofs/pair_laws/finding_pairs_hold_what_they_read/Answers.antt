use Rattle.mlt_hash_pair.proofs.Laws.{holds_read}
use Rattle.mlt_hash_pair.proofs.pair_laws.finding_pairs_hold_what_they_read.Goals as goal

pub returns : goal.returns
returns c = holds_read
