use Rattle.mlt_hash_form.proofs.Paths.{path_of}
use Rattle.mlt_hash_form.proofs.form_laws.each_pseudokey_has_a_path.Goals as goal

pub returns : goal.returns
returns c = path_of
