use Rattle.mlt_tx_step_counts.proofs.Inverses.{taken_back}
use Rattle.mlt_tx_step_counts.proofs.step_laws.inverses_take_four_steps_or_one.Goals as goal

pub returns : goal.returns
returns c = taken_back
