use Rattle.mlt_hash_form.proofs.SplitSteps.{begins_to_double}
use Rattle.mlt_hash_form.proofs.split_laws.split_begins_to_double.Goals as goal

pub returns : goal.returns
returns c = λ split one two deeper made may halves.
    begins_to_double split.bits split.active split.before split.root split.seed split.old_page split.new_page may one two halves.ones halves.zeros deeper made
