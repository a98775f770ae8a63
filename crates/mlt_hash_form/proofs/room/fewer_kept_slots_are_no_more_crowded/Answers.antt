use Rattle.mlt_hash_form.proofs.Crowd.{crowded_with_fewer}
use Rattle.mlt_hash_form.proofs.room.fewer_kept_slots_are_no_more_crowded.Goals as goal

pub returns : goal.returns
returns c = crowded_with_fewer
