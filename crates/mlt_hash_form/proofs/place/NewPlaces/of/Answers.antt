use Rattle.mlt_hash_form.proofs.InPlace.{new_places_within}
use Rattle.mlt_hash_form.proofs.place.NewPlaces.of.Goals as goal

pub returns-clause-within : goal.returns-clause-within
returns-clause-within c = new_places_within c.args.depth c.args.bucket_depth c.first_bits.result c.requires.0 c.requires.1 c.first_bits.ensures.below
