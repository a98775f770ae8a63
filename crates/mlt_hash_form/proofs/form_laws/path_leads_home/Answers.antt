use Rattle.mlt_hash_form.proofs.Paths.{path_home, path_depths}
use Rattle.mlt_hash_form.proofs.form_laws.path_leads_home.Goals as goal

pub returns : goal.returns
returns c = λ bits pages root key header dir n bucket bounded file path. (path_home bits pages root key header dir n bucket bounded file path, path_depths bits pages root key header dir n bucket bounded file path)
