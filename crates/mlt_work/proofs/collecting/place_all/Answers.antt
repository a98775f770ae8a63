use Rattle.mlt_work.proofs.Placing.{last_put}
use Rattle.mlt_work.proofs.collecting.place_all.Goals as goal

pub loop-run-preserved : goal.loop-run-preserved
loop-run-preserved g c = last_put _ _ _ _ _ _ _ c.in-Some.run' c.loop-run.invariant c.in-Some.ensures.items

pub loop-run-preserved-in-Some : goal.loop-run-preserved-in-Some
loop-run-preserved-in-Some g c = last_put _ _ _ _ _ _ _ c.in-Some.run' c.loop-run.invariant c.in-Some.ensures.items
