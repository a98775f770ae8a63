use Rattle.mlt_hash_split.proofs.Narrow.{narrow_next_page}
use Rattle.mlt_hash_split.proofs.split_laws.narrow_splits_lock_the_keys_page.Goals as goal

pub returns : goal.returns
returns c = narrow_next_page
