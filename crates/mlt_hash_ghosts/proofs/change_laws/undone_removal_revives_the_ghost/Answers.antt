use Rattle.mlt_hash_ghosts.proofs.Changes.{undone_removal_law}
use Rattle.mlt_hash_ghosts.proofs.change_laws.undone_removal_revives_the_ghost.Goals as goal

pub returns : goal.returns
returns c = undone_removal_law
