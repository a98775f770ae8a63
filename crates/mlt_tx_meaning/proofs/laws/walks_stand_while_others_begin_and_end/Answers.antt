use Rattle.mlt_tx_meaning.proofs.Walks.{stands_by_begin, stands_by_end}
use Rattle.mlt_tx_meaning.proofs.laws.walks_stand_while_others_begin_and_end.Goals as goal

pub returns-clause-begins : goal.returns-clause-begins
returns-clause-begins c = λ state undoing tx walk view h stands agree. stands_by_begin state tx walk view h stands agree

pub returns-clause-ends : goal.returns-clause-ends
returns-clause-ends c = λ state tx other walk view h stands agree. stands_by_end state tx walk view h stands agree other
