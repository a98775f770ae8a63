use Rattle.mlt_hash.proofs.Standings.{standing_holds_few}
use Rattle.mlt_hash.proofs.walk_laws.walks_hold_fewer_than_300_pages.Goals as goal

pub returns : goal.returns
returns c = standing_holds_few
