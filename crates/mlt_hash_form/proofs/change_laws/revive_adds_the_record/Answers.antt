use Rattle.mlt_hash_form.proofs.SingleChanges.{revive_changes}
use Rattle.mlt_hash_form.proofs.change_laws.revive_adds_the_record.Goals as goal

pub returns : goal.returns
returns c = λ bits pages pages' root key owner value spot at none ghost.
    revive_changes bits pages pages' root key owner value spot.number spot.at spot.bucket at.home none at.within ghost
