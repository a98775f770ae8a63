use Rattle.std.proofs.Common.{List, ℕ, subst, sym, []}
use Rattle.mlt_object_base.proofs.Names.{AreCounted}
use Rattle.mlt_object_base.proofs.Counting.{nothing_counted}
use Rattle.mlt_object_base.proofs.elements.Elements.new.Goals as goal

pub invariant_of-result : goal.invariant_of-result
invariant_of-result c =
    subst (λ (sizes : List (ℕ × ℕ)). AreCounted c.new.result.keys sizes) (sym c.new-2.ensures.empty)
    (subst (λ (keys : List (ℕ × ℕ)). AreCounted keys []) (sym c.new.ensures.empty) nothing_counted)
