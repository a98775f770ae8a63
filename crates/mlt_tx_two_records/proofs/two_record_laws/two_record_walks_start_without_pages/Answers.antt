use Rattle.std.proofs.Common.{arith}
use Rattle.mlt_hash_pair.proofs.Laws.{starts}
use Rattle.mlt_tx_two_records.proofs.two_record_laws.two_record_walks_start_without_pages.Goals as goal

pub returns : goal.returns
returns c context request own size m keys none =
    record { keys = keys; under_way = omega arith; finding = starts context.bits context.root own size m keys.apart none }
