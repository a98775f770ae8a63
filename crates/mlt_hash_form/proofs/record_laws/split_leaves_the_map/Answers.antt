use Rattle.mlt_hash_form.proofs.MapChanges.{left_by_split}
use Rattle.mlt_hash_form.proofs.record_laws.split_leaves_the_map.Goals as goal

pub returns : goal.returns
returns c = left_by_split
