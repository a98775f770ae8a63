use Rattle.mlt_hash_form.proofs.Names.{buckets_of, lead_of}
use Rattle.mlt_hash_form.proofs.Crowd.{crowded_at_own_depth}
use Rattle.mlt_hash_form.proofs.room.crowding_at_own_depth.Goals as goal

pub returns : goal.returns
returns c = λ bits active pages root x bounded x_ok file. crowded_at_own_depth bits active _ (lead_of pages root) (buckets_of pages) x x_ok bounded file.form
