use Rattle.mlt_tx_meaning.proofs.Opening.{opening_matches}
use Rattle.mlt_tx_meaning.proofs.laws.opening_file_matches_the_empty_history.Goals as goal

pub returns : goal.returns
returns c = opening_matches
