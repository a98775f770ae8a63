use Rattle.mlt_tx_meaning.proofs.Walks.{undone_is_there}
use Rattle.mlt_tx_meaning.proofs.laws.what_an_inverse_changes_is_there.Goals as goal

pub returns : goal.returns
returns c = undone_is_there
