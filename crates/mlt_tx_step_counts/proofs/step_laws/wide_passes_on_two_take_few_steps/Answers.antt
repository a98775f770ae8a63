use Rattle.mlt_tx_step_counts.proofs.WideOfTwo.{wide_of_two}
use Rattle.mlt_tx_step_counts.proofs.step_laws.wide_passes_on_two_take_few_steps.Goals as goal

pub returns : goal.returns
returns c = wide_of_two
