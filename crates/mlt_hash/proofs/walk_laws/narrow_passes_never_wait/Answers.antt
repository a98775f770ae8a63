use Rattle.mlt_hash.proofs.NoWaiting.{narrow_never_waits}
use Rattle.mlt_hash.proofs.walk_laws.narrow_passes_never_wait.Goals as goal

pub returns : goal.returns
returns c = narrow_never_waits
