use Rattle.mlt_order.{specs.Histories.no_lists, proofs.Growing.follow_push, proofs.Growing.follow_front, proofs.Growing.after_entries-push}
use Rattle.mlt_order.proofs.history.history_grows.Goals as goal

pub returns-clause-grows : goal.returns-clause-grows
returns-clause-grows g c = λ start state next history entry. follow_push g.T.Steps.step history no_lists start state next entry

pub returns-clause-lists : goal.returns-clause-lists
returns-clause-lists g c = λ history entry. after_entries-push history no_lists entry

pub returns-clause-front : goal.returns-clause-front
returns-clause-front g c = λ start state history later. follow_front g.T.Steps.step history later no_lists start state
