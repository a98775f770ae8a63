use Rattle.mlt_object_base.proofs.SizeRecords.{can_resize, can_resize_back, has_size_now, has_size_still, has_size_still_back}
use Rattle.mlt_object_base.proofs.meaning.size_records_can_be_changed.Goals as goal

pub returns : goal.returns
returns c = record {
  resize = λ records b op means undergoes. can_resize records b op means undergoes.in_range undergoes.can_be undergoes.steps;
  left = λ records b op means undergoes. has_size_now records b op means undergoes.in_range undergoes.can_be undergoes.steps;
  stays = has_size_still;
  back = λ records b x reply means undergoes. can_resize_back records b x reply means undergoes.in_range undergoes.can_be undergoes.steps;
  stays_back = has_size_still_back;
}
