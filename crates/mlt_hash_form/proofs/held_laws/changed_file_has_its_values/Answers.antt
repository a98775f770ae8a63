use Rattle.mlt_hash_form.proofs.HeldPages.{changed_values}
use Rattle.mlt_hash_form.proofs.held_laws.changed_file_has_its_values.Goals as goal

pub returns : goal.returns
returns c = changed_values
