use Rattle.mlt_hash_ghosts.proofs.GhostLookup.{look_up_exact}
use Rattle.mlt_hash_ghosts.proofs.finding.look_up_finds_the_ghost.Goals as goal

pub returns : goal.returns
returns c = look_up_exact
