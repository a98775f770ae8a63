use Rattle.std.proofs.Common.{ℕ, Option, None, ap}
use Rattle.mlt_tx_operation.proofs.Names.{most_steps_by, access_path_for}
use Rattle.mlt_tx_operation.proofs.MostSteps.{one_fewer_at_least}
use Rattle.mlt_tx_operation.proofs.end_law.operations_come_to_an_end.Goals as goal

pub returns : goal.returns
returns c = record {
  fewer = one_fewer_at_least;
  in_all = λ root request view none. ap (λ (key : Option ℕ). most_steps_by (access_path_for request key) root None view) none;
  in_all_of_two = λ root request view size some. ap (λ (key : Option ℕ). most_steps_by (access_path_for request key) root None view) some;
}
