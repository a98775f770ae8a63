use Rattle.mlt_tx_meaning.proofs.Transactions.{abort_keeps}
use Rattle.mlt_tx_meaning.proofs.laws.abort_keeps_the_match.Goals as goal

pub returns : goal.returns
returns c = abort_keeps
