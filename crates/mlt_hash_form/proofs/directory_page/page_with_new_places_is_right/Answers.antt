use Rattle.mlt_hash_form.proofs.PageContents.{placed_right}
use Rattle.mlt_hash_form.proofs.directory_page.page_with_new_places_is_right.Goals as goal

pub returns : goal.returns
returns c = λ bits pages root n new x j old made may was places.
    placed_right bits pages root n new x j old made may was places.inside places.outside
