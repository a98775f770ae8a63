use Rattle.mlt_tx_step_counts.proofs.Passes.{first_pass}
use Rattle.mlt_tx_step_counts.proofs.step_laws.first_passes_take_four_steps.Goals as goal

pub returns : goal.returns
returns c = first_pass
