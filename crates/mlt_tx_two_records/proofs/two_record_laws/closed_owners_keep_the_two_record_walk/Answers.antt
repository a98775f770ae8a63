use Rattle.mlt_tx_two_records.proofs.TwoRecordLaws.{two_records_still, told_still}
use Rattle.mlt_tx_two_records.proofs.two_record_laws.closed_owners_keep_the_two_record_walk.Goals as goal

pub returns : goal.returns
returns c = record {
  stands = λ context request two_records view fewer clean stands no_more is_open agree form. two_records_still context fewer request view clean no_more is_open agree form two_records stands;
  told = λ context request reply two_records view fewer clean told no_more is_open agree form. told_still context fewer request view clean no_more is_open agree form two_records reply told;
}
