use Rattle.mlt_hash_form.proofs.HeldPages.{keeps_fewer}
use Rattle.mlt_hash_form.proofs.held_laws.fewer_open_owners_keep_the_file.Goals as goal

pub returns : goal.returns
returns c = λ bits active fewer root seen. keeps_fewer bits active root seen fewer
