use Rattle.mlt_hash_form.proofs.SplitSteps.{pages_when_doubled}
use Rattle.mlt_hash_form.proofs.split_laws.pages_of_a_doubled_directory.Goals as goal

pub returns : goal.returns
returns c = pages_when_doubled
