use Rattle.std.proofs.Common.{None, Some, arith}
use Rattle.mlt_work_desk.proofs.Listings.{told_never, told_once}
use Rattle.mlt_work_desk.proofs.listing.a_list_tells_each_key_once.Goals as goal

pub returns : goal.returns
returns c = λ place readings key are within. (
  λ found. told_once place key (Some 0) None readings are found (omega arith) within,
  told_never place key (Some 0) None readings are,
)
