use Rattle.mlt_order.proofs.UndoLaws.{done}
use Rattle.mlt_order.proofs.laws.done_keeps_undone_to.Goals as goal

pub returns : goal.returns
returns g c = done g.T.Steps.step
