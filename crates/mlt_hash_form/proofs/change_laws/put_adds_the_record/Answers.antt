use Rattle.mlt_hash_form.proofs.SingleChanges.{put_changes}
use Rattle.mlt_hash_form.proofs.change_laws.put_adds_the_record.Goals as goal

pub returns : goal.returns
returns c = λ bits active pages pages' root key value spot at none free.
    put_changes bits active pages pages' root key value spot.number spot.at spot.bucket at.home none at.within free
