use Rattle.mlt_hash_form.proofs.Names.{buckets_of, lead_of}
use Rattle.mlt_hash_form.proofs.Crowd.{crowded_test}
use Rattle.mlt_hash_form.proofs.room.crowding_is_local.Goals as goal

pub returns : goal.returns
returns c = λ bits active pages root depth x bounded x_ok file. crowded_test bits active _ (lead_of pages root) (buckets_of pages) depth x x_ok bounded file.form
