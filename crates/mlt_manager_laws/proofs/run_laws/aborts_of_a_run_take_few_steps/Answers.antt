use Rattle.mlt_manager_laws.proofs.Runs.{from_abort, reached}
use Rattle.mlt_manager_laws.proofs.run_laws.aborts_of_a_run_take_few_steps.Goals as goal

pub returns : goal.returns
returns g c = λ old new events tolds tx t last r there to only run.
    from_abort g.P.Pseudo.bits_of tx events tolds old new t last (reached g.P.Pseudo.bits_of old g.met.P.Pseudo.has_64_bits r) there to only run
