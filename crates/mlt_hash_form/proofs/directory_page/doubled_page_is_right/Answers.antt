use Rattle.mlt_hash_form.proofs.PageContents.{doubled_right}
use Rattle.mlt_hash_form.proofs.directory_page.doubled_page_is_right.Goals as goal

pub returns : goal.returns
returns c = λ pages root n new x j old made deep was doubled.
    doubled_right pages root n new x j old made deep was doubled.others doubled.here
