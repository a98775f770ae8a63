use Rattle.mlt_tx_meaning.proofs.Matches.{same_pages_match}
use Rattle.mlt_tx_meaning.proofs.laws.same_pages_keep_the_match.Goals as goal

pub returns : goal.returns
returns c = same_pages_match
