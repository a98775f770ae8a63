use Rattle.mlt_hash_form.proofs.MapChanges.{opening_map}
use Rattle.mlt_hash_form.proofs.record_laws.opening_file_has_the_empty_map.Goals as goal

pub returns : goal.returns
returns c = opening_map
