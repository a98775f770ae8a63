use Rattle.mlt_order.proofs.Stages.{fresh_until_begun, held_is_what_was_done}
use Rattle.mlt_order.proofs.history.lists_tell_what_was_begun_and_done.Goals as goal

pub returns-clause-fresh : goal.returns-clause-fresh
returns-clause-fresh g c = λ start state history i. fresh_until_begun g.T.Steps.step i history start state

pub returns-clause-held : goal.returns-clause-held
returns-clause-held g c = λ start state history i. held_is_what_was_done g.T.Steps.step i history start state
