use Rattle.mlt_tx_meaning.proofs.TwoEnds.{can_do_both, can_take_back_both}
use Rattle.mlt_tx_meaning.proofs.laws.what_both_changes_need_is_there.Goals as goal

pub returns-clause-done : goal.returns-clause-done
returns-clause-done c = λ state tx op h. can_do_both state tx h op

pub returns-clause-undone : goal.returns-clause-undone
returns-clause-undone c = λ state tx item h. can_take_back_both state tx h item
