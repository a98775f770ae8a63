use Rattle.mlt_hash_pair.proofs.Laws.{starts}
use Rattle.mlt_hash_pair.proofs.pair_laws.pair_starts_without_pages.Goals as goal

pub returns : goal.returns
returns c = starts
