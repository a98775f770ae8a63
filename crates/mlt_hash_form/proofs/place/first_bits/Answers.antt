use Rattle.std.proofs.Common.{arith}
use Rattle.mlt_hash_form.proofs.Bits.{first_bits_below}
use Rattle.mlt_hash_form.proofs.place.first_bits.Goals as goal

pub returns-else-count-eq0-clause-below : goal.returns-else-count-eq0-clause-below
returns-else-count-eq0-clause-below c = first_bits_below c.args.count c.args.bits c.requires (omega arith)
