use Rattle.std.proofs.Common.{bit_or, subst}
use Rattle.mlt_object_locks.specs.Classes.{IsUnion}
use Rattle.mlt_object_locks.proofs.Bits.{both_together}
use Rattle.mlt_object_locks.proofs.classes.ClassSet.joined.Goals as goal

pub returns : goal.returns
returns c =
    let a = c.self.inside.bits in
    let b = c.other.inside.bits in
    subst (λ n. IsUnion (bit_or a b) n c.args.other) c.self.view_is (subst (IsUnion (bit_or a b) a) c.other.view_is (both_together a b))
