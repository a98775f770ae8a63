use Rattle.std.proofs.Common.{ap}
use Rattle.mlt_page_subtx.proofs.Names.{images_in}
use Rattle.mlt_page_subtx.proofs.Lists.{kept_none}
use Rattle.mlt_page_subtx.proofs.subtx.Subtx.start.Goals as goal

pub invariant_of-result : goal.invariant_of-result
invariant_of-result c = kept_none c.new.result (images_in c.new-2.result.entries) c.new.ensures (ap images_in c.new-2.ensures.empty)
