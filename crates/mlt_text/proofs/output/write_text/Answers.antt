use Rattle.std.proofs.Common.{arith, length-take, length-drop}
use Rattle.mlt_text.proofs.Pieces.{piece_written, front_written, on_err_all}
use Rattle.mlt_text.proofs.output.write_text.Goals as goal

pub returns-in_err-count-clause-err : goal.returns-in_err-count-clause-err
returns-in_err-count-clause-err g c = on_err_all _ _ (front_written _ _ _ _ c.loop-at.at c.loop-at.invariant.1 c.in_err-count.ensures.err)

pub loop-at-preserved : goal.loop-at-preserved
loop-at-preserved g c = (grind (arith, length-take, length-drop), piece_written _ _ _ _ c.loop-at.at c.in_ok-count.count c.loop-at.invariant.1 c.in_ok-count.ensures.ok)
