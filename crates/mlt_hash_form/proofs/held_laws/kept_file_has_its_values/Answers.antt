use Rattle.mlt_hash_form.proofs.HeldPages.{kept_values}
use Rattle.mlt_hash_form.proofs.held_laws.kept_file_has_its_values.Goals as goal

pub returns : goal.returns
returns c = λ bits active root seen own clean keeps. kept_values bits active root seen own keeps clean
