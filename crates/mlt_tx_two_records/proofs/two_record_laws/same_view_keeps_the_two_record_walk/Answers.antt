use Rattle.std.proofs.Common.{subst}
use Rattle.mlt_tx_two_records.proofs.Names.{View, IsTold}
use Rattle.mlt_hash_pair.proofs.Laws.{one_view}
use Rattle.mlt_tx_two_records.specs.TwoRecordWalks.{Stands}
use Rattle.mlt_tx_two_records.proofs.two_record_laws.same_view_keeps_the_two_record_walk.Goals as goal

pub returns-clause-stands : goal.returns-clause-stands
returns-clause-stands c context request two_records before after same = subst (λ (view : View). Stands two_records context request view) (one_view before after same)

pub returns-clause-told : goal.returns-clause-told
returns-clause-told c context request reply two_records before after same = subst (λ (view : View). IsTold two_records context request reply view) (one_view before after same)
