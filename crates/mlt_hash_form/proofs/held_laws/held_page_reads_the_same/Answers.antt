use Rattle.mlt_hash_form.proofs.HeldPages.{reads_same}
use Rattle.mlt_hash_form.proofs.held_laws.held_page_reads_the_same.Goals as goal

pub returns : goal.returns
returns c = reads_same
