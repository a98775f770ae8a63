use Rattle.mlt_tx_two_records.proofs.wide.act_on_size.Given as goal

abbrev pub ghost-raise_size : goal.ghost-raise_size
ghost-raise_size g a = g.since
