use Rattle.mlt_manager_laws.proofs.Runs.{from_first, reached}
use Rattle.mlt_manager_laws.proofs.run_laws.operations_of_a_run_take_few_steps.Goals as goal

pub returns : goal.returns
returns g c = λ old first new events tolds tx op r begins only run.
    from_first g.P.Pseudo.bits_of tx op events tolds old first new (reached g.P.Pseudo.bits_of old g.met.P.Pseudo.has_64_bits r) begins only run
