use Rattle.mlt_hash.proofs.walk.Walk.insert.Given as goal

abbrev pub ghost-without_room : goal.ghost-without_room
ghost-without_room g a = g.context
