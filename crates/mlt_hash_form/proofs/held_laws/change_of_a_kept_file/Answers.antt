use Rattle.mlt_hash_form.proofs.HeldPages.{change_of_kept}
use Rattle.mlt_hash_form.proofs.held_laws.change_of_a_kept_file.Goals as goal

pub returns : goal.returns
returns c = λ bits active root key n i value after seen rest own keeps. change_of_kept bits active root seen rest keeps own key n i value after
