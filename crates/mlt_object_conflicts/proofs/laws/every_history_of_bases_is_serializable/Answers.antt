use Rattle.mlt_object_conflicts.proofs.Names.{Step, empty_base}
use Rattle.mlt_order.{specs.Histories.lists_of, proofs.Keeping.kept_by_history, proofs.Keeping.last_goes, proofs.UndoLaws.one_base}
use Rattle.mlt_object_conflicts.proofs.BaseOrder.{base_functional, base_injective}
use Rattle.mlt_object_conflicts.proofs.laws.every_history_of_bases_is_serializable.Goals as goal

pub returns : goal.returns
returns c = record {
  serializable = λ base history h. (kept_by_history Step empty_base base_functional base_injective history base h).serializable;
  one =
      λ base one other history h.
      let mixed = (kept_by_history Step empty_base base_functional base_injective history base h).mixed in
      one_base Step base_injective one other base (lists_of history).transcripts mixed.0 mixed.1;
  undo = λ base history i rest last h is. last_goes Step empty_base base_functional base_injective history base i rest last h is;
}
