use Rattle.mlt_hash_form.proofs.Paths.{slots_of_key}
use Rattle.mlt_hash_form.proofs.form_laws.slots_of_a_key_are_in_its_bucket.Goals as goal

pub returns : goal.returns
returns c = λ bits pages root key header dir n bucket slot bounded file path. slots_of_key bits pages root key header dir n bucket bounded file path slot
