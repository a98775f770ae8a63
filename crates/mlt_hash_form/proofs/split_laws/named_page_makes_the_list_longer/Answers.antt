use Rattle.mlt_hash_form.proofs.SplitSteps.{set_is_longer}
use Rattle.mlt_hash_form.proofs.split_laws.named_page_makes_the_list_longer.Goals as goal

pub returns : goal.returns
returns c = set_is_longer
