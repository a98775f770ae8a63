use Rattle.mlt_manager_invariant.proofs.Stays.{stays_sound}
use Rattle.mlt_manager_invariant.proofs.laws.event_that_keeps_clean_pages.Goals as goal

pub returns : goal.returns
returns c = stays_sound
