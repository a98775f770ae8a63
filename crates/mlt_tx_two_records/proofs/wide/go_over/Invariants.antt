use Rattle.mlt_tx_two_records.proofs.wide.go_over.Given as goal

abbrev pub ghost-go_on_to : goal.ghost-go_on_to
ghost-go_on_to g a = g.context
