use Rattle.std.proofs.Common.{subst, sym, arith}
use Rattle.mlt_object_locks.proofs.Names.{nat_tests, Meets}
use Rattle.mlt_object_locks.proofs.Bits.{meets_if, not_none_if}
use Rattle.mlt_object_locks.proofs.classes.ClassSet.meets.Goals as goal

pub returns : goal.returns
returns c =
    let a = c.self.inside.bits in
    let b = c.other.inside.bits in (
      (λ some. subst (λ n. Meets n c.args.other.now) c.self.view_is (subst (Meets a) c.other.view_is (meets_if a b (λ none. grind (arith, nat_tests))))),
      λ meets. let some = not_none_if a b (subst (λ n. Meets n b) (sym c.self.view_is) (subst (Meets c.args.self.now) (sym c.other.view_is) meets)) in grind (arith, nat_tests),
    )
