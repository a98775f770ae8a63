use Rattle.mlt_tx_operation.proofs.Names.{context_in}
use Rattle.mlt_tx_operation.proofs.perform.perform.Given as goal

abbrev pub ghost-insert : goal.ghost-insert
ghost-insert g a = context_in g.P.Pseudo.bits_of a.environment.now a.subtx.now.tx
