use Rattle.mlt_hash_access.proofs.AllRunning.{first_clean, first_may_step}
use Rattle.mlt_hash_access.proofs.clean_laws.nobody_runs_at_first.Goals as goal

pub returns : goal.returns
returns c = record { may = first_may_step; clean = first_clean }
