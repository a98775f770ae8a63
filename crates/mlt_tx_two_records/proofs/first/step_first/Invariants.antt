use Rattle.mlt_tx_two_records.proofs.first.step_first.Given as goal

abbrev pub ghost-act_on_both : goal.ghost-act_on_both
ghost-act_on_both g a = record { bits = g.P.Pseudo.bits_of a.environment.now.root.now.pseudo; root = a.environment.now.root.now.page }
