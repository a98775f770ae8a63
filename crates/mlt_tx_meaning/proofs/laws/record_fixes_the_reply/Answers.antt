use Rattle.mlt_tx_meaning.proofs.Fixed.{step_fixes, step_there}
use Rattle.mlt_tx_meaning.proofs.laws.record_fixes_the_reply.Goals as goal

pub returns : goal.returns
returns c = record { steps = step_there; alone = λ state op reply after h range. step_fixes state op h range reply after }
