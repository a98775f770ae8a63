use Rattle.mlt_tx_two_records.proofs.Names.{context_after, context_in}
use Rattle.mlt_tx_two_records.proofs.wide.walk_to_size.Given as goal

abbrev pub ghost-advance : goal.ghost-advance
ghost-advance g a = context_after g.since (context_in g.P.Pseudo.bits_of a.environment.now a.subtx.now.tx)

abbrev pub ghost-act_on_size : goal.ghost-act_on_size
ghost-act_on_size g a = g.since
