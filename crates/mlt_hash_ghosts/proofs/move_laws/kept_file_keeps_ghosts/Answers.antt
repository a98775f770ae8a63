use Rattle.mlt_hash_ghosts.proofs.Moves.{kept_moved}
use Rattle.mlt_hash_ghosts.proofs.move_laws.kept_file_keeps_ghosts.Goals as goal

pub returns : goal.returns
returns c = kept_moved
