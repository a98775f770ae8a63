use Rattle.mlt_tx_step_counts.proofs.FirstOfTwo.{first_pass_of_two}
use Rattle.mlt_tx_step_counts.proofs.step_laws.first_passes_on_two_take_four_to_seven_steps.Goals as goal

pub returns : goal.returns
returns c = first_pass_of_two
