use Rattle.mlt_hash_form.proofs.SplitSteps.{closes_in_place}
use Rattle.mlt_hash_form.proofs.split_laws.split_closes_in_place.Goals as goal

pub returns : goal.returns
returns c = λ split pages q may midway.
    closes_in_place split.bits split.active split.before split.root split.seed split.old_page split.new_page may pages q midway
