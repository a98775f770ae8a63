use Rattle.mlt_tx_two_records.proofs.first.act_on_both.Given as goal

abbrev pub ghost-change : goal.ghost-change
ghost-change g a = g.read_by
