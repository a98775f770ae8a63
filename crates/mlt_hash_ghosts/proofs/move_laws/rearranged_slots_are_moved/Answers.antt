use Rattle.mlt_hash_ghosts.proofs.Moves.{rearranged_moved}
use Rattle.mlt_hash_ghosts.proofs.move_laws.rearranged_slots_are_moved.Goals as goal

pub returns : goal.returns
returns c = rearranged_moved
