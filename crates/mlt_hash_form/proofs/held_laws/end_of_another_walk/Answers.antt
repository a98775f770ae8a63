use Rattle.mlt_hash_form.proofs.HeldPages.{agrees_after}
use Rattle.mlt_hash_form.proofs.held_laws.end_of_another_walk.Goals as goal

pub returns : goal.returns
returns c = agrees_after
