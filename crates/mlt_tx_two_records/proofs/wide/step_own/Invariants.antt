use Rattle.mlt_tx_two_records.proofs.Names.{context_in}
use Rattle.mlt_tx_two_records.proofs.wide.step_own.Given as goal

abbrev pub ghost-advance : goal.ghost-advance
ghost-advance g a = context_in g.P.Pseudo.bits_of a.environment.now a.subtx.now.tx

abbrev pub ghost-go_over : goal.ghost-go_over
ghost-go_over g a = context_in g.P.Pseudo.bits_of a.environment.now a.subtx.now.tx
