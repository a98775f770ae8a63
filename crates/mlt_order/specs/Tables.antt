-- Tables with an entry under each number, as functions, and how one may differ from another.
use Rattle.std.specs.Prelude.{◌≡◌, ◌≢◌, ℕ, ◌≤◌, List, [], ◌∷◌, ◌++◌, if◌then◌else◌, ◌==◌}

-- the table with this entry under the number
abbrev pub table_with : {X : Type 0} → (ℕ → X) → ℕ → X → ℕ → X
table_with table i entry j = if i == j then entry else table j

-- under every other number the tables have the same
abbrev pub SameElsewhere : {X : Type 0} → (ℕ → X) → (ℕ → X) → ℕ → Type 0
SameElsewhere before after i = (j : ℕ) → j ≢ i → after j ≡ before j

-- the list under the number has one more item at its end, and all others stay
abbrev pub Gains : {P : Type 0} → (ℕ → List P) → (ℕ → List P) → ℕ → P → Type 0
Gains before after i item = (after i ≡ before i ++ item ∷ []) × SameElsewhere before after i

-- no list is left under the number, and all others stay
abbrev pub IsEmptied : {P : Type 0} → (ℕ → List P) → (ℕ → List P) → ℕ → Type 0
IsEmptied before after i = (after i ≡ []) × SameElsewhere before after i

-- from some number on all lists are empty
abbrev pub AreFinitelyMany : {P : Type 0} → (ℕ → List P) → Type 0
AreFinitelyMany lists = (bound : ℕ) × ((i : ℕ) → bound ≤ i → lists i ≡ [])
