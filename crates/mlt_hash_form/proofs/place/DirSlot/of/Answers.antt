use Rattle.mlt_hash_form.proofs.FillEnds.{place_within}
use Rattle.mlt_hash_form.proofs.place.DirSlot.of.Goals as goal

pub returns-clause-within : goal.returns-clause-within
returns-clause-within c = place_within c.args.depth c.first_bits-place.result c.requires c.first_bits-place.ensures.below
