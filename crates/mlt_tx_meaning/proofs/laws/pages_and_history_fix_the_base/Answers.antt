use Rattle.mlt_tx_meaning.proofs.Fixed.{history_fixes, pages_fix}
use Rattle.mlt_tx_meaning.proofs.laws.pages_and_history_fix_the_base.Goals as goal

pub returns : goal.returns
returns c = record { pages = pages_fix; history = history_fixes }
