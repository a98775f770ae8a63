-- Lists without some of their elements.
use Rattle.std.proofs.Common.{◌∙◌, ◌++◌, List, [], ◌∷◌, ap, sym, subst, append_assoc, append-nil}
use Rattle.mlt_work_desk.specs.Views.{IsSubsequence}

-- with more in front, and with more behind
pub behind_more : {X : Type 0} (xs front ys : List X) → IsSubsequence xs ys → IsSubsequence xs (front ++ ys)
behind_more [] front ys is = tt
behind_more (x ∷ xs) front ys (skipped, rest, whole, on) = (front ++ skipped, rest, ap (λ l. front ++ l) whole ∙ sym (append_assoc front skipped (x ∷ rest)), on)

pub both_parts : {X : Type 0} (xs more ys later : List X) → IsSubsequence xs ys → IsSubsequence more later → IsSubsequence (xs ++ more) (ys ++ later)
both_parts [] more ys later one other = behind_more more ys later other
both_parts (x ∷ xs) more ys later (skipped, rest, whole, on) other =
    (skipped, rest ++ later, ap (λ l. l ++ later) whole ∙ append_assoc skipped (x ∷ rest) later, both_parts xs more rest later on other)

pub before_more : {X : Type 0} (xs ys later : List X) → IsSubsequence xs ys → IsSubsequence xs (ys ++ later)
before_more xs ys later is = subst (λ l. IsSubsequence l (ys ++ later)) (append-nil xs) (both_parts xs [] ys later is tt)
