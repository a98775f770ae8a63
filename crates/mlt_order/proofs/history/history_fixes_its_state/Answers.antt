use Rattle.mlt_order.{specs.Histories.no_lists, proofs.Growing.follow_to_one}
use Rattle.mlt_order.proofs.history.history_fixes_its_state.Goals as goal

pub returns : goal.returns
returns g c = λ start one other history. follow_to_one g.T.Steps.step g.T.Steps.one_end g.T.Steps.one_start history no_lists start one other
