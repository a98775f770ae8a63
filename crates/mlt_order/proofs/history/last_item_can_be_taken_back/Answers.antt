use Rattle.mlt_order.proofs.Keeping.{last_goes}
use Rattle.mlt_order.proofs.history.last_item_can_be_taken_back.Goals as goal

pub returns : goal.returns
returns g c = λ start state history i rest item. last_goes g.T.Steps.step start g.T.Steps.one_end g.T.Steps.one_start history state i rest item
