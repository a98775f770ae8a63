use Rattle.mlt_hash.proofs.adding.go_on_splitting.Given as goal

abbrev pub ghost-advance : goal.ghost-advance
ghost-advance g a = g.given.1
