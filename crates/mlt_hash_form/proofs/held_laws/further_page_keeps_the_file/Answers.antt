use Rattle.mlt_hash_form.proofs.HeldPages.{keeps_more}
use Rattle.mlt_hash_form.proofs.held_laws.further_page_keeps_the_file.Goals as goal

pub returns : goal.returns
returns c = λ bits active root seen. keeps_more bits active root seen
