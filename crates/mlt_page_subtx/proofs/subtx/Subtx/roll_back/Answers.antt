use Rattle.std.proofs.Common.{ap}
use Rattle.mlt_page_subtx.proofs.Names.{images_in}
use Rattle.mlt_page_subtx.proofs.Lists.{kept_none}
use Rattle.mlt_page_subtx.proofs.subtx.Subtx.roll_back.Goals as goal

pub invariant_of-self : goal.invariant_of-self
invariant_of-self c = kept_none c.put_all_back.new.near (images_in c.put_all_back.new.far.entries) c.put_all_back.ensures.near (ap images_in c.put_all_back.ensures.far)
