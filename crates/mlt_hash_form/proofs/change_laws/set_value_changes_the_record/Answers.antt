use Rattle.mlt_hash_form.proofs.SingleChanges.{set_value_changes}
use Rattle.mlt_hash_form.proofs.change_laws.set_value_changes_the_record.Goals as goal

pub returns : goal.returns
returns c = λ bits pages pages' root key value spot at.
    set_value_changes bits pages pages' root key value spot.number spot.at spot.bucket at.home at.within
