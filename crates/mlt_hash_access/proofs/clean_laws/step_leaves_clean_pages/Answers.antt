use Rattle.mlt_hash_access.proofs.AllEvents.{step_leaves_clean, step_leaves_views}
use Rattle.mlt_hash_access.proofs.clean_laws.step_leaves_clean_pages.Goals as goal

pub returns : goal.returns
returns c = record { keeps = step_leaves_views; clean = step_leaves_clean }
