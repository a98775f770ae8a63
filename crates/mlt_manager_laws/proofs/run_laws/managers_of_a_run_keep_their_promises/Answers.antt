use Rattle.mlt_manager_laws.proofs.Names.{promises_kept}
use Rattle.mlt_manager_laws.proofs.Runs.{cut_run, reached}
use Rattle.mlt_manager_laws.proofs.run_laws.managers_of_a_run_keep_their_promises.Goals as goal

pub returns-clause-reached : goal.returns-clause-reached
returns-clause-reached g c = λ m r. promises_kept g.P.Pseudo.bits_of m (reached g.P.Pseudo.bits_of m g.met.P.Pseudo.has_64_bits r) c.form_is_extendible_hashing.ensures c.records_are_a_map.ensures

pub returns-clause-between : goal.returns-clause-between
returns-clause-between g c = λ opening new limits pseudo before later tolds is_new run.
    cut_run g.P.Pseudo.bits_of c.form_is_extendible_hashing.ensures c.records_are_a_map.ensures g.met.P.Pseudo.has_64_bits opening new limits pseudo before later tolds is_new run
