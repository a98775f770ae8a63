use Rattle.mlt_hash_access.proofs.AllEvents.{close_clean, close_keeps}
use Rattle.mlt_hash_access.proofs.clean_laws.close_leaves_clean_pages.Goals as goal

pub returns : goal.returns
returns c = record { keeps = close_keeps; clean = close_clean }
