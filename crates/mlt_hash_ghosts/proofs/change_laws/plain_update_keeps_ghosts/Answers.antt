use Rattle.mlt_hash_ghosts.proofs.Changes.{plain_update_law}
use Rattle.mlt_hash_ghosts.proofs.change_laws.plain_update_keeps_ghosts.Goals as goal

pub returns : goal.returns
returns c = plain_update_law
