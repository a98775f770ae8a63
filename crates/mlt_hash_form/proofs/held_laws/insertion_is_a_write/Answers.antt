use Rattle.mlt_hash_form.proofs.HeldPages.{insert_writes}
use Rattle.mlt_hash_form.proofs.held_laws.insertion_is_a_write.Goals as goal

pub returns : goal.returns
returns c = insert_writes
