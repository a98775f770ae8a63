use Rattle.mlt_hash_form.proofs.MapChanges.{inserted}
use Rattle.mlt_hash_form.proofs.record_laws.change_to_a_value_inserts.Goals as goal

pub returns : goal.returns
returns c = inserted
