use Rattle.mlt_hash_ghosts.proofs.Moves.{moved}
use Rattle.mlt_hash_ghosts.proofs.move_laws.ghosts_move_with_their_keys.Goals as goal

pub returns : goal.returns
returns c = moved
