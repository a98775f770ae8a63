use Rattle.std.proofs.Common.{ap}
use Rattle.mlt_page_subtx.proofs.Names.{images_in}
use Rattle.mlt_page_subtx.proofs.Lists.{kept_none}
use Rattle.mlt_page_subtx.proofs.subtx.Subtx.end.Goals as goal

pub invariant_of-self : goal.invariant_of-self
invariant_of-self c = kept_none c.clear.new.self (images_in c.clear_far.new.far.entries) c.clear.ensures (ap images_in c.clear_far.ensures)
