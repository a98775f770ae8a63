use Rattle.std.proofs.Common.{ap, arith, length-set, ◌∙◌}
use Rattle.mlt_page.{specs.Slots.half, specs.Values.BucketFields, proofs.Halves.next_half, proofs.Halves.all_halves}
use Rattle.mlt_page.proofs.bucket.Bucket.part.Goals as goal

pub loop-at-preserved : goal.loop-at-preserved
loop-at-preserved g c =
    let f = half (g.P.Pseudo.bits_of c.args.pseudo.now) c.args.active.now c.args.place in
    let before = c.loop-at.invariant in
    record {
      zeros_size = length-set c.loop-at.zeros c.loop-at.at c.halves-zero.result.0 ∙ before.zeros_size;
      ones_size = length-set c.loop-at.ones c.loop-at.at c.halves-zero.result.1 ∙ before.ones_size;
      zeros = next_half (f 0) c.self.inside.slots c.loop-at.zeros c.loop-at.at c.halves-zero.result.0 _ c.self.invariant before.zeros_size c.loop-at-test.true c.halves-zero.ensures.zero before.zeros;
      ones = next_half (f 1) c.self.inside.slots c.loop-at.ones c.loop-at.at c.halves-zero.result.1 _ c.self.invariant before.ones_size c.loop-at-test.true c.halves-zero.ensures.one before.ones;
    }

pub returns-clause-zeros : goal.returns-clause-zeros
returns-clause-zeros g c =
    let f = half (g.P.Pseudo.bits_of c.args.pseudo.now) c.args.active.now c.args.place in
    let after = c.loop-at.invariant in
    all_halves (f 0) c.self.inside.slots c.loop-at.zeros c.args.self.now _ (ap (λ (b : BucketFields). b.slots) c.self.view_is) c.self.invariant after.zeros_size (λ k lt. after.zeros k (omega (arith, lt, c.loop-at-test.false)))

pub returns-clause-ones : goal.returns-clause-ones
returns-clause-ones g c =
    let f = half (g.P.Pseudo.bits_of c.args.pseudo.now) c.args.active.now c.args.place in
    let after = c.loop-at.invariant in
    all_halves (f 1) c.self.inside.slots c.loop-at.ones c.args.self.now _ (ap (λ (b : BucketFields). b.slots) c.self.view_is) c.self.invariant after.ones_size (λ k lt. after.ones k (omega (arith, lt, c.loop-at-test.false)))
