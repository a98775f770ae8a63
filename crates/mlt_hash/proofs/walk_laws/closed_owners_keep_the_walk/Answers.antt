use Rattle.mlt_hash.proofs.Owners.{stands_still}
use Rattle.mlt_hash.proofs.walk_laws.closed_owners_keep_the_walk.Goals as goal

pub returns : goal.returns
returns c = λ context fewer walk view clean stands no_more agree form. stands_still context fewer walk view clean no_more agree form stands
