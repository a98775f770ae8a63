use Rattle.mlt_hash_ghosts.proofs.Changes.{put_addition_law}
use Rattle.mlt_hash_ghosts.proofs.change_laws.addition_puts_a_record.Goals as goal

pub returns : goal.returns
returns c = put_addition_law
