use Rattle.mlt_hash_access.proofs.AllEvents.{begin_clean, begin_keeps, nothing_at_begin}
use Rattle.mlt_hash_access.proofs.clean_laws.begin_leaves_clean_pages.Goals as goal

pub returns : goal.returns
returns c = record { keeps = begin_keeps; nothing = nothing_at_begin; clean = begin_clean }
