use Rattle.mlt_hash_form.proofs.PrefixForm.{prefix_form}
use Rattle.mlt_hash_form.proofs.form_laws.form_is_extendible_hashing.Goals as goal

pub returns : goal.returns
returns c = λ bits active pages root bounded file. prefix_form bits pages root bounded file active
