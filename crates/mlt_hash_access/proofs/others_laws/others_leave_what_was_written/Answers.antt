use Rattle.mlt_hash_access.proofs.Others.{same_writes}
use Rattle.mlt_hash_access.proofs.others_laws.others_leave_what_was_written.Goals as goal

pub returns : goal.returns
returns c = same_writes
