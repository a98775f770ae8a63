use Rattle.mlt_hash_ghosts.proofs.Changes.{removal_law}
use Rattle.mlt_hash_ghosts.proofs.change_laws.removal_makes_the_ghost.Goals as goal

pub returns : goal.returns
returns c = removal_law
