use Rattle.mlt_hash_access.proofs.AllEvents.{end_agrees, end_clean, end_keeps, nothing_at_end}
use Rattle.mlt_hash_access.proofs.clean_laws.end_makes_written_pages_clean.Goals as goal

pub returns : goal.returns
returns c = record { keeps = end_keeps; nothing = nothing_at_end; clean = end_clean; agrees = end_agrees }
