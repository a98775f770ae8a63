use Rattle.mlt_hash.proofs.Passed.{narrow_holds_next}
use Rattle.mlt_hash.proofs.walk_laws.narrow_passes_hold_their_next_page.Goals as goal

pub returns : goal.returns
returns c = narrow_holds_next
