use Rattle.std.proofs.Common.{refl}
use Rattle.mlt_hash_form.proofs.SplitSteps.{closes_by_header}
use Rattle.mlt_hash_form.proofs.split_laws.split_closes_by_header.Goals as goal

pub returns : goal.returns
returns c = λ split pages pages' k header may midway small deeper room writes.
    closes_by_header split.bits split.active split.before split.root split.seed split.old_page split.new_page may pages pages' header.depth k header midway small deeper room refl writes
