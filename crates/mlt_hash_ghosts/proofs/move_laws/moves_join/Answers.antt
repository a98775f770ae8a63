use Rattle.mlt_hash_ghosts.proofs.Moves.{moves_joined}
use Rattle.mlt_hash_ghosts.proofs.move_laws.moves_join.Goals as goal

pub returns : goal.returns
returns c = moves_joined
