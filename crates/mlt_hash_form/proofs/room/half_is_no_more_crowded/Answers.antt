use Rattle.mlt_hash_form.proofs.Crowd.{crowded_half}
use Rattle.mlt_hash_form.proofs.room.half_is_no_more_crowded.Goals as goal

pub returns : goal.returns
returns c = crowded_half
