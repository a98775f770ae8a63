-- How many wait once locks were given back
use Rattle.std.proofs.Common.{◌≡◌, ◌≤◌, List, [], ◌∷◌, true, false, not, cond, length, refl, arith}
use Rattle.mlt_work_waits.specs.{Turns.waiting, declared.wait.Awaited.Awaited, declared.wait.Waiting.Waiting, declared.wait.Whose.Whose}
use Rattle.mlt_work_waits.specs.Waits.{Waits, is_for, others_in, released, nobody_waits}

fewer_in : (given : Whose) (waits : List Waiting) → length (others_in given waits) ≤ length waits
fewer_in given [] = omega arith
fewer_in given (wait ∷ waits) =
    let fewer = fewer_in given waits in
    elim (is_for given wait) as (λ b. length (cond (not b) (wait ∷ others_in given waits) (others_in given waits)) ≤ length (wait ∷ waits)) [
      | true ↦ omega (arith, fewer)
      | false ↦ omega (arith, fewer)
    ]

pub fewer_wait : (kind : Awaited) (given : Whose) (waits : Waits) → waiting (released kind given waits) ≤ waiting waits
fewer_wait Awaited.Objects given waits = omega (arith, fewer_in given waits.objects)
fewer_wait Awaited.Pages given waits = omega (arith, fewer_in given waits.pages)

none_left : (waits : List Waiting) → others_in Whose.All waits ≡ []
none_left [] = refl
none_left (wait ∷ waits) = none_left waits

pub nobody_left : (waits : Waits) → released Awaited.Pages Whose.All (released Awaited.Objects Whose.All waits) ≡ nobody_waits
nobody_left waits = λ i. record { objects = none_left waits.objects i; pages = none_left waits.pages i }
