use Rattle.mlt_tx_step_counts.proofs.InversesOfTwo.{taken_back_of_two}
use Rattle.mlt_tx_step_counts.proofs.step_laws.inverses_on_two_take_four_to_seven_steps.Goals as goal

pub returns : goal.returns
returns c = taken_back_of_two
