use Rattle.mlt_order.{specs.Histories.lists_of, proofs.Keeping.kept_by_history, proofs.Mixing.finitely_many_mix}
use Rattle.mlt_order.proofs.history.every_history_is_serializable.Goals as goal

pub returns-clause-serializable : goal.returns-clause-serializable
returns-clause-serializable g c = λ start state history h.
    (kept_by_history g.T.Steps.step start g.T.Steps.one_end g.T.Steps.one_start history state h).serializable

pub returns-clause-finite : goal.returns-clause-finite
returns-clause-finite g c = λ start state history h.
    (finitely_many_mix (lists_of history).transcripts).1 (kept_by_history g.T.Steps.step start g.T.Steps.one_end g.T.Steps.one_start history state h).mixed
