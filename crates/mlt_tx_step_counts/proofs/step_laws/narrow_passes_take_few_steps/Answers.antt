use Rattle.mlt_tx_step_counts.proofs.Passes.{narrow_pass}
use Rattle.mlt_tx_step_counts.proofs.step_laws.narrow_passes_take_few_steps.Goals as goal

pub returns : goal.returns
returns c = narrow_pass
