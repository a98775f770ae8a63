use Rattle.mlt_hash_access.proofs.AllEvents.{step_adds_one_page}
use Rattle.mlt_hash_access.proofs.clean_laws.step_adds_one_page_at_most.Goals as goal

pub returns : goal.returns
returns c = step_adds_one_page
