use Rattle.mlt_hash_ghosts.proofs.Changes.{undone_addition_law}
use Rattle.mlt_hash_ghosts.proofs.change_laws.undone_addition_leaves_a_ghost.Goals as goal

pub returns : goal.returns
returns c = undone_addition_law
