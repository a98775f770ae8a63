use Rattle.mlt_hash_split.proofs.Locks.{locks_its_page_alone}
use Rattle.mlt_hash_split.proofs.split_laws.steps_lock_their_page_alone.Goals as goal

pub returns : goal.returns
returns c = locks_its_page_alone
