use Rattle.std.proofs.Common.{◌*◌, ◌%◌, ◌^◌, bit_or, subst, arith}
use Rattle.mlt_object_locks.proofs.Names.{Adds, bit_of}
use Rattle.mlt_object_locks.proofs.Bits.{adds_bit}
use Rattle.mlt_object_locks.proofs.classes.ClassSet.with.Goals as goal

pub returns : goal.returns
returns c =
    let set = c.self.inside.bits in
    let bit = c.bit_of.result in
    subst (λ n. Adds n (bit_or set (1 * 2 ^ bit % 2 ^ 32)) (bit_of c.args.class)) c.self.view_is
    (subst (λ k. Adds set (bit_or set (1 * 2 ^ bit % 2 ^ 32)) k) c.bit_of.ensures.bit (adds_bit set bit (omega (arith, c.bit_of.ensures.fits))))
