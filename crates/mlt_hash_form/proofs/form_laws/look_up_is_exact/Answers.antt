use Rattle.mlt_hash_form.proofs.InPages.{found_by_walk}
use Rattle.mlt_hash_form.proofs.form_laws.look_up_is_exact.Goals as goal

pub returns : goal.returns
returns c = λ bits pages root key value header dir n bucket. found_by_walk bits pages root header dir n bucket key value
