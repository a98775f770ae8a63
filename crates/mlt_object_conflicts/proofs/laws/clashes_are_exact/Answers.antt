use Rattle.mlt_object_conflicts.proofs.{BaseBreaks.clashing_break, BaseCommutes.apart_do_not_clash, BaseCommutes.clash_free_commute}
use Rattle.mlt_object_conflicts.proofs.laws.clashes_are_exact.Goals as goal

pub returns : goal.returns
returns c = record { apart = apart_do_not_clash; commutes = clash_free_commute; breaks = clashing_break }
