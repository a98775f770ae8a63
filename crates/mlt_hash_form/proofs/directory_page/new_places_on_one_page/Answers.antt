use Rattle.mlt_hash_form.proofs.Names.{header_of, buckets_of, prefix_of}
use Rattle.mlt_hash_form.proofs.InPlace.{one_page}
use Rattle.mlt_hash_form.proofs.directory_page.new_places_on_one_page.Goals as goal

pub returns : goal.returns
returns c = λ base root n x. one_page (header_of (base root)).depth (buckets_of base n).depth (prefix_of base n x)
