use Rattle.mlt_hash.proofs.Laws.{found_there}
use Rattle.mlt_hash.proofs.walk_laws.what_is_found_is_there.Goals as goal

pub returns : goal.returns
returns c = λ context walk view bucket depth found clean here agree form. found_there context walk view bucket depth found clean here agree
