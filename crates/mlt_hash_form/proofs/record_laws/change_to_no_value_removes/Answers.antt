use Rattle.mlt_hash_form.proofs.MapChanges.{removed}
use Rattle.mlt_hash_form.proofs.record_laws.change_to_no_value_removes.Goals as goal

pub returns : goal.returns
returns c = removed
