use Rattle.mlt_manager.proofs.Objects.{does_step, step_does}
use Rattle.mlt_manager_laws.proofs.object_laws.operations_do_their_steps.Goals as goal

pub returns : goal.returns
returns c = λ b d item. (does_step b d item, step_does b d item)
