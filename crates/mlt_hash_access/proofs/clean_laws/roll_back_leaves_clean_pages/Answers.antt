use Rattle.mlt_hash_access.proofs.AllEvents.{nothing_after_roll_back, roll_back_clean, roll_back_keeps}
use Rattle.mlt_hash_access.proofs.clean_laws.roll_back_leaves_clean_pages.Goals as goal

pub returns : goal.returns
returns c = record { keeps = roll_back_keeps; nothing = nothing_after_roll_back; clean = roll_back_clean }
