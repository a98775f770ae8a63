use Rattle.mlt_hash.proofs.StepsLeft.{one_fewer}
use Rattle.mlt_hash.proofs.walk_laws.each_step_leaves_one_fewer.Goals as goal

pub returns : goal.returns
returns c = one_fewer
