use Rattle.mlt_hash_split.proofs.Laws.{under_way_with_fewer}
use Rattle.mlt_hash_split.proofs.split_laws.closed_owners_keep_the_split.Goals as goal

pub returns : goal.returns
returns c = under_way_with_fewer
