use Rattle.mlt_hash_ghosts.proofs.Moves.{same_matched}
use Rattle.mlt_hash_ghosts.proofs.move_laws.same_pages_keep_ghosts.Goals as goal

pub returns : goal.returns
returns c = same_matched
