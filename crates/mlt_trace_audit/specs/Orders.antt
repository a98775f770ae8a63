-- Outcomes that stand by client and then by script.
use Rattle.std.specs.Prelude.{◌≡◌, ◌⊎◌, ℕ, ◌<◌, List, Some, slice_get}
use Rattle.mlt_script_serial.specs.declared.outcome.{End.TheVariants.Committed, Outcome.Outcome}

-- an outcome whose end is a commit
abbrev pub IsCommitted : Outcome → Type 0
IsCommitted o = (number : ℕ) × (o.end ≡ Committed number)

-- its client comes before, or its script among those of the client
abbrev pub Precedes : Outcome → Outcome → Type 0
Precedes one other = (one.client < other.client) ⊎ ((one.client ≡ other.client) × (one.number < other.number))

-- each precedes all that stand behind it
abbrev pub AreInOrder : List Outcome → Type 0
AreInOrder outcomes = (j k : ℕ) (one other : Outcome) → slice_get outcomes j ≡ Some one → slice_get outcomes k ≡ Some other
    → j < k → Precedes one other
