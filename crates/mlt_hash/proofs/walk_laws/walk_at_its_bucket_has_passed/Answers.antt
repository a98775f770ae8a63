use Rattle.mlt_hash.proofs.Passed.{holds_at_bucket, read_at_bucket}
use Rattle.mlt_hash.proofs.walk_laws.walk_at_its_bucket_has_passed.Goals as goal

pub returns : goal.returns
returns c = λ context walk view bucket depth found here. (read_at_bucket context walk view bucket depth found here, holds_at_bucket context walk view bucket depth found here)
