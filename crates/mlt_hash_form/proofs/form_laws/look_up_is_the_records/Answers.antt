use Rattle.mlt_hash_form.proofs.Lookup.{found}
use Rattle.mlt_hash_form.proofs.form_laws.look_up_is_the_records.Goals as goal

pub returns : goal.returns
returns c = λ bits pages root key value file. found bits _ _ _ file.form key value
