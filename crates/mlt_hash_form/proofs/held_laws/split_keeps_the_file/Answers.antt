use Rattle.mlt_hash_form.proofs.HeldPages.{split_keeps}
use Rattle.mlt_hash_form.proofs.held_laws.split_keeps_the_file.Goals as goal

pub returns : goal.returns
returns c = λ bits active splitters root n new seen own own' keeps. split_keeps bits active root seen own keeps own' splitters n new
