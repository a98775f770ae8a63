use Rattle.mlt_tx_operation.proofs.Names.{context_in}
use Rattle.mlt_tx_operation.proofs.walking.step_walk.Given as goal

abbrev pub ghost-advance : goal.ghost-advance
ghost-advance g a = context_in g.P.Pseudo.bits_of a.environment.now a.subtx.now.tx
