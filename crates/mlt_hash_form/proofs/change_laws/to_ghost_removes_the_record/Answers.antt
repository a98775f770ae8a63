use Rattle.mlt_hash_form.proofs.SingleChanges.{to_ghost_changes}
use Rattle.mlt_hash_form.proofs.change_laws.to_ghost_removes_the_record.Goals as goal

pub returns : goal.returns
returns c = λ bits pages pages' root key owner spot at.
    to_ghost_changes bits pages pages' root key owner spot.number spot.at spot.bucket at.home at.within
