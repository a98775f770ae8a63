use Rattle.mlt_hash_form.proofs.OpeningFile.{opening_has_form, opening_is_free}
use Rattle.mlt_hash_form.proofs.form_laws.opening_file_has_the_form.Goals as goal

pub returns : goal.returns
returns c = λ bits pages root dir bucket is. (opening_has_form bits pages root dir bucket is, opening_is_free bits pages root dir bucket is)
