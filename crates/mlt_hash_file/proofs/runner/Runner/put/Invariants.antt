use Rattle.mlt_hash_file.proofs.Names.{context_after, context_in}
use Rattle.mlt_hash_file.proofs.runner.Runner.put.Given as goal

abbrev pub ghost-insert : goal.ghost-insert
ghost-insert g a = context_after g.since (context_in g.P.Pseudo.bits_of a.environment.now a.subtx.now.tx)
