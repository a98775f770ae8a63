use Rattle.mlt_tx_meaning.proofs.Transactions.{close_keeps, commit_keeps}
use Rattle.mlt_tx_meaning.proofs.laws.end_keeps_the_match.Goals as goal

pub returns : goal.returns
returns c = record { commit = commit_keeps; close = close_keeps }
