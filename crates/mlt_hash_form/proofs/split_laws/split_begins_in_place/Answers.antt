use Rattle.mlt_hash_form.proofs.SplitSteps.{begins_in_place}
use Rattle.mlt_hash_form.proofs.split_laws.split_begins_in_place.Goals as goal

pub returns : goal.returns
returns c = λ split one two q may halves.
    begins_in_place split.bits split.active split.before split.root split.seed split.old_page split.new_page may one two halves.ones halves.zeros q
