use Rattle.mlt_hash_form.proofs.PrefixForm.{form_from_prefixes}
use Rattle.mlt_hash_form.proofs.form_laws.extendible_hashing_is_the_form.Goals as goal

pub returns : goal.returns
returns c = form_from_prefixes
