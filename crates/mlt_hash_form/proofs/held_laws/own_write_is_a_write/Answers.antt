use Rattle.mlt_hash_form.proofs.HeldPages.{writes_over}
use Rattle.mlt_hash_form.proofs.held_laws.own_write_is_a_write.Goals as goal

pub returns : goal.returns
returns c = writes_over
