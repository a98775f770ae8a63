use Rattle.mlt_hash_form.proofs.MapChanges.{changed_file_map}
use Rattle.mlt_hash_form.proofs.record_laws.changed_file_changes_the_map.Goals as goal

pub returns : goal.returns
returns c = changed_file_map
