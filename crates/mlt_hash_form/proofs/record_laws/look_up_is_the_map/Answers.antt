use Rattle.mlt_hash_form.proofs.MapChanges.{map_is_look_up}
use Rattle.mlt_hash_form.proofs.record_laws.look_up_is_the_map.Goals as goal

pub returns : goal.returns
returns c = map_is_look_up
