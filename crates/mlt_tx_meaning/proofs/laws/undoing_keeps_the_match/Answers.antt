use Rattle.mlt_tx_meaning.proofs.Undoing.{undoing_keeps}
use Rattle.mlt_tx_meaning.proofs.laws.undoing_keeps_the_match.Goals as goal

pub returns : goal.returns
returns c = λ state tx item pages h may. undoing_keeps state tx item h may pages
