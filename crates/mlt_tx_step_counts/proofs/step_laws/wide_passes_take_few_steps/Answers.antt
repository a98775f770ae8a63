use Rattle.mlt_tx_step_counts.proofs.Passes.{wide_pass}
use Rattle.mlt_tx_step_counts.proofs.step_laws.wide_passes_take_few_steps.Goals as goal

pub returns : goal.returns
returns c = wide_pass
