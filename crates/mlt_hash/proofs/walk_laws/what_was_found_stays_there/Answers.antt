use Rattle.mlt_hash.proofs.Standings.{found_still}
use Rattle.mlt_hash.proofs.walk_laws.what_was_found_stays_there.Goals as goal

pub returns : goal.returns
returns c = found_still
