use Rattle.mlt_tx_two_records.proofs.LeftRecords.{leaves_as_told}
use Rattle.mlt_tx_two_records.proofs.two_record_laws.changes_are_left_as_told.Goals as goal

pub returns : goal.returns
returns c = λ context request reply two_records view clean bounded told agree form shallow. leaves_as_told context request reply view clean bounded agree form shallow two_records told
