use Rattle.std.proofs.Common.{refl}
use Rattle.mlt_tx_two_records.proofs.TwoRecordSteps.{end_is_left, one_fewer_at_least}
use Rattle.mlt_tx_two_records.proofs.two_record_laws.two_record_walks_come_to_an_end.Goals as goal

pub returns : goal.returns
returns c = record {
  fewer = λ context request old new before after. one_fewer_at_least context request old new before after;
  last = λ context request reply old new before after tells. end_is_left context request reply old new before after tells;
  in_all = λ root own size view. refl;
}
