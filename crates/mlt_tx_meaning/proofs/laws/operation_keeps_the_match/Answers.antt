use Rattle.mlt_tx_meaning.proofs.Operations.{operation_keeps}
use Rattle.mlt_tx_meaning.proofs.laws.operation_keeps_the_match.Goals as goal

pub returns : goal.returns
returns c = operation_keeps
