use Rattle.mlt_hash_access.proofs.AllRunning.{agrees_with_each, clean_for_each, each_may_step}
use Rattle.mlt_hash_access.proofs.clean_laws.clean_pages_are_clean_for_each.Goals as goal

pub returns : goal.returns
returns c = record { may = each_may_step; clean = clean_for_each; agrees = agrees_with_each }
