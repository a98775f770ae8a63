use Rattle.mlt_hash_split.proofs.Laws.{rest_with_fewer}
use Rattle.mlt_hash_split.proofs.split_laws.closed_owners_keep_the_rest.Goals as goal

pub returns : goal.returns
returns c = rest_with_fewer
