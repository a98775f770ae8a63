use Rattle.std.proofs.Common.{ℕ, subst}
use Rattle.mlt_manager.specs.{CleanBuckets.IsCleanBucket, Parts.fields_of}
use Rattle.mlt_manager.proofs.ListedSlots.{is_of_pseudokey}
use Rattle.mlt_manager.proofs.parts.Parts.bucket_of.Goals as goal

pub clean_directory-directory-requires-clause-within : goal.clean_directory-directory-requires-clause-within
clean_directory-directory-requires-clause-within g c = (c.depth.result, c.depth.ensures.depth, c.first_bits-place.ensures.below)

pub bucket_in-requires-clause-within : goal.bucket_in-requires-clause-within
bucket_in-requires-clause-within g c = (c.depth.result, c.depth.ensures.depth, c.first_bits-place.ensures.below)

pub returns : goal.returns
returns g c =
    let m = fields_of c.args.self.now in
    let at = subst (λ (place : ℕ). IsCleanBucket m place c.bucket_in.result.now) c.first_bits-place.ensures.value c.bucket_in.ensures.bucket in
    record { bucket = is_of_pseudokey g.P.Pseudo.bits_of m c.requires.sound c.args.pseudokey c.depth.result c.ranges.pseudokey.fits c.depth.ensures.depth c.bucket_in.result.now at }
