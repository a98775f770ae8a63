use Rattle.mlt_hash_access.proofs.Views.{agrees}
use Rattle.mlt_hash_access.proofs.view_laws.view_agrees_with_clean_pages.Goals as goal

pub returns : goal.returns
returns c = agrees
