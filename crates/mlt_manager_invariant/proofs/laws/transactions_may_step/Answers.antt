use Rattle.mlt_manager_invariant.proofs.MaySteps.{may_step}
use Rattle.mlt_manager_invariant.proofs.laws.transactions_may_step.Goals as goal

pub returns : goal.returns
returns c = may_step
