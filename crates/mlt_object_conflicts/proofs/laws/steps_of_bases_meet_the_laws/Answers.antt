use Rattle.mlt_object_conflicts.proofs.BaseOrder.{base_functional, base_injective, runs_agree}
use Rattle.mlt_object_conflicts.proofs.laws.steps_of_bases_meet_the_laws.Goals as goal

pub returns : goal.returns
returns c = record { one_end = base_functional; one_start = base_injective; runs = runs_agree }
