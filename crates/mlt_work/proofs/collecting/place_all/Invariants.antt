use Rattle.std.proofs.Common.{map, vec_len}
use Rattle.mlt_work.{specs.Places.place_of, specs.Runs.AreRunWith, proofs.Placing.ArePut}
use Rattle.mlt_work.proofs.collecting.place_all.Given as goal

abbrev pub invariant-loop-run : goal.invariant-loop-run
invariant-loop-run g l = ArePut (AreRunWith g.P.Pseudo.bits_of g.L.MadeWith.tries) l.clients l.fn.slots.items (map place_of l.fn.runs.items) l.slots.items l.rest.items

abbrev pub decreases-loop-run : goal.decreases-loop-run
decreases-loop-run g l = vec_len l.rest
