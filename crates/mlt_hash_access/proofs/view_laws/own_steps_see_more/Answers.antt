use Rattle.mlt_hash_access.proofs.OwnSteps.{own_step_sees_more}
use Rattle.mlt_hash_access.proofs.view_laws.own_steps_see_more.Goals as goal

pub returns : goal.returns
returns c = own_step_sees_more
