use Rattle.mlt_hash_form.proofs.SplitSteps.{page_as_it_was}
use Rattle.mlt_hash_form.proofs.split_laws.unwritten_page_is_as_it_was.Goals as goal

pub returns : goal.returns
returns c = λ split pages deeper j k q made midway.
    page_as_it_was split.bits split.active split.before pages split.root split.old_page split.new_page split.seed deeper j k q made midway
