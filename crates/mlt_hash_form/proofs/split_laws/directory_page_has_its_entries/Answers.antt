use Rattle.mlt_hash_form.proofs.SplitSteps.{listed_entries}
use Rattle.mlt_hash_form.proofs.split_laws.directory_page_has_its_entries.Goals as goal

pub returns : goal.returns
returns c = listed_entries
