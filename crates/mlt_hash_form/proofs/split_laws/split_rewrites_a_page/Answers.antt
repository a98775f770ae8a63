use Rattle.mlt_hash_form.proofs.SplitSteps.{rewrites_a_page}
use Rattle.mlt_hash_form.proofs.split_laws.split_rewrites_a_page.Goals as goal

pub returns : goal.returns
returns c = λ split pages pages' deeper j k m made made' dir may midway writes.
    rewrites_a_page split.bits split.active split.before split.root split.seed split.old_page split.new_page may pages pages' deeper made made' j k m dir midway writes
