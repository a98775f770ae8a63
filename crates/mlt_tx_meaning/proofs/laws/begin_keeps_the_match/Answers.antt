use Rattle.mlt_tx_meaning.proofs.Transactions.{begin_keeps}
use Rattle.mlt_tx_meaning.proofs.laws.begin_keeps_the_match.Goals as goal

pub returns : goal.returns
returns c = begin_keeps
