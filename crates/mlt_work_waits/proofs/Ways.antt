-- Ways along waits, one after another
use Rattle.std.proofs.Common.{◌≡◌, ℕ, ◌+◌, List, [], ◌∷◌, ◌++◌, length, None, Some, refl, sym, subst, arith}
use Rattle.mlt_work_waits.specs.Waits.{IsFor, IsFunctional, LeadsBy, LeadsTo, Waits, holder_of}
use Rattle.mlt_work_waits.proofs.Found.{found_is_for, none_is_for}

-- no way leads on from one that waits for nobody,
pub leads_nowhere : (waits : Waits) (x y : ℕ) → holder_of waits x ≡ None → (x ≡ y → ⊥) → LeadsTo waits x y → ⊥
leads_nowhere waits x y none apart ([], same) = apart same
leads_nowhere waits x y none apart (next ∷ more, (first, rest)) = none_is_for waits x next none first

-- and each way goes by the one that it waits for
pub leads_by_holder : (waits : Waits) (x y z : ℕ) → IsFunctional waits → holder_of waits x ≡ Some z → (x ≡ y → ⊥) → LeadsTo waits x y → LeadsTo waits z y
leads_by_holder waits x y z functional found apart ([], same) = absurd (apart same)
leads_by_holder waits x y z functional found apart (next ∷ more, (first, rest)) = (more, subst (λ n. LeadsBy waits n more y) (functional x next z first (found_is_for waits x z found)) rest)

-- one wait more at the end of a way
pub one_more_by : (waits : Waits) (x y z : ℕ) (path : List ℕ) → LeadsBy waits x path y → IsFor waits y z → LeadsBy waits x (path ++ z ∷ []) z
one_more_by waits x y z [] same last = (subst (λ n. IsFor waits n z) (sym same) last, refl)
one_more_by waits x y z (next ∷ more) (first, rest) last = (first, one_more_by waits next y z more rest last)

pub one_longer : (path : List ℕ) (z : ℕ) → length (path ++ z ∷ []) ≡ length path + 1
one_longer [] z = refl
one_longer (x ∷ path) z = let longer = one_longer path z in omega (arith, longer)
