use Rattle.mlt_hash_access.proofs.Others.{same_view}
use Rattle.mlt_hash_access.proofs.others_laws.others_leave_the_view.Goals as goal

pub returns : goal.returns
returns c = same_view
