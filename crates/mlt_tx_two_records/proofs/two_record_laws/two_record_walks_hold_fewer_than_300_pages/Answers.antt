use Rattle.mlt_tx_two_records.proofs.TwoRecordLaws.{holds_few, told_holds_few}
use Rattle.mlt_tx_two_records.proofs.two_record_laws.two_record_walks_hold_fewer_than_300_pages.Goals as goal

pub returns : goal.returns
returns c = record {
  stands = λ context request two_records view clean stands agree form. holds_few context request view clean agree form two_records stands;
  told = λ context request reply two_records view clean told agree form. told_holds_few context request view clean agree form two_records reply told;
}
