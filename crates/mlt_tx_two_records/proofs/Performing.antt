-- How the change of a record that is there is made. Other crates cite this module.
use Rattle.std.proofs.Common.{◌≡◌, ℕ, Option, None, Some, refl, sym, subst}
use Rattle.mlt_tx_two_records.proofs.Names.{none-some, RecChange, Add, Revive, CanChange, record_after, Change, Performs}

-- the change of the slot that leaves this record
abbrev pub change_to : Option ℕ → Change
change_to None = Change.Remove
change_to (Some v) = Change.Set v

performs : (decided : RecChange) (v : ℕ) → CanChange (Some decided) (Some v) → Performs decided (Some v) (change_to (record_after (Some decided) (Some v)))
performs (Add w) v can = absurd (none-some v (sym can))
performs Revive v can = absurd (none-some v (sym can))
performs decided v can = refl

pub leaves : (decided : RecChange) (found after : Option ℕ) (v : ℕ) → found ≡ Some v → CanChange (Some decided) found → record_after (Some decided) found ≡ after → Performs decided found (change_to after)
leaves decided found after v is can leaving =
    subst (λ a. Performs decided found (change_to a)) leaving
    (subst (λ (f : Option ℕ). CanChange (Some decided) f → Performs decided f (change_to (record_after (Some decided) f))) (sym is) (performs decided v) can)
