use Rattle.mlt_object_kinds.proofs.{BaseLaws.base_one_answer, BaseLaws.base_one_start, BaseLaws.same_base, BaseLaws.step_to, CommutingLaws.few_cells}
use Rattle.mlt_object_kinds.proofs.laws.steps_of_bases_are_fixed.Goals as goal

pub returns : goal.returns
returns c = record {
  cells = same_base;
  one_answer = base_one_answer;
  one_start = base_one_start;
  of_the_cell = step_to;
  few = few_cells;
}
