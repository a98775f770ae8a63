use Rattle.mlt_tx_meaning.proofs.TwoEnds.{done_leaves, undone_leaves}
use Rattle.mlt_tx_meaning.proofs.laws.both_changes_are_left.Goals as goal

pub returns-clause-done : goal.returns-clause-done
returns-clause-done c = λ state tx op reply view pages h range leaves ends. done_leaves state tx reply view pages h ends op range leaves

pub returns-clause-undone : goal.returns-clause-undone
returns-clause-undone c = λ state tx item reply view pages h range leaves ends. undone_leaves state tx reply view pages h ends item range leaves
