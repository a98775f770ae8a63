use Rattle.mlt_object_base.proofs.{Meanings.one_meaning, OperationChanges.means_step, OperationChanges.means_step_back, OperationChanges.tells_size}
use Rattle.mlt_object_base.proofs.meaning.records_mean_bases.Goals as goal

pub returns : goal.returns
returns c = record {
  one = one_meaning;
  size = tells_size;
  step = λ records b op means undergoes. means_step records b op means undergoes.in_range undergoes.can_be undergoes.steps;
  back = λ records b x means undergoes. means_step_back records b x means undergoes.in_range undergoes.can_be undergoes.steps;
}
