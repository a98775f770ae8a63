use Rattle.mlt_order.proofs.Keeping.{kept_by_history}
use Rattle.mlt_order.proofs.history.lists_hold_what_is_open.Goals as goal

pub returns-clause-held : goal.returns-clause-held
returns-clause-held g c = λ start state history i item h.
    (kept_by_history g.T.Steps.step start g.T.Steps.one_end g.T.Steps.one_start history state h).covers i item

pub returns-clause-running : goal.returns-clause-running
returns-clause-running g c = λ start state history i h.
    (kept_by_history g.T.Steps.step start g.T.Steps.one_end g.T.Steps.one_start history state h).only i
