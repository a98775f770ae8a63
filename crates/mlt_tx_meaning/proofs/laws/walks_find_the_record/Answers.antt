use Rattle.mlt_tx_meaning.proofs.Names.{cell_of}
use Rattle.mlt_tx_meaning.proofs.Walks.{found_is_record, record_looked_up}
use Rattle.mlt_tx_meaning.proofs.laws.walks_find_the_record.Goals as goal

pub returns-clause-look_up : goal.returns-clause-look_up
returns-clause-look_up c = λ state op. record_looked_up state (cell_of op)

pub returns-clause-found : goal.returns-clause-found
returns-clause-found c = λ state tx op. found_is_record state tx (cell_of op)
