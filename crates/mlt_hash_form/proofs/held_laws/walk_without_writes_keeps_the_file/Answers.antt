use Rattle.mlt_hash_form.proofs.HeldPages.{keeps_none}
use Rattle.mlt_hash_form.proofs.held_laws.walk_without_writes_keeps_the_file.Goals as goal

pub returns : goal.returns
returns c = keeps_none
