use Rattle.mlt_object_kinds.proofs.CommutingLaws.{apart_steps_commute, cell_steps_commute}
use Rattle.mlt_object_kinds.proofs.laws.steps_of_bases_commute.Goals as goal

pub returns : goal.returns
returns c = record { apart = apart_steps_commute; on_one_cell = cell_steps_commute }
