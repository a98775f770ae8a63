use Rattle.mlt_hash_ghosts.proofs.Changes.{ghost_addition_law}
use Rattle.mlt_hash_ghosts.proofs.change_laws.addition_revives_the_ghost.Goals as goal

pub returns : goal.returns
returns c = ghost_addition_law
