use Rattle.mlt_hash_form.proofs.PrefixForm.{once_live}
use Rattle.mlt_hash_form.proofs.form_laws.records_are_defined.Goals as goal

pub returns : goal.returns
returns c = once_live
