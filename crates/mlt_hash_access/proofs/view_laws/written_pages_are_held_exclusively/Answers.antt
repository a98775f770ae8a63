use Rattle.mlt_hash_access.proofs.Views.{written_is_exclusive}
use Rattle.mlt_hash_access.proofs.view_laws.written_pages_are_held_exclusively.Goals as goal

pub returns : goal.returns
returns c = written_is_exclusive
