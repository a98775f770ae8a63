use Rattle.mlt_hash_form.proofs.Crowd.{crowded_in_fewer}
use Rattle.mlt_hash_form.proofs.room.crowding_in_fewer_bits.Goals as goal

pub returns : goal.returns
returns c = crowded_in_fewer
