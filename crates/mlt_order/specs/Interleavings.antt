-- Interleavings of the lists that stand under numbers, and what is left when all of the lists are undone.
use Rattle.std.specs.Prelude.{◌≡◌, ℕ, List, [], ◌∷◌, if◌then◌else◌, ◌==◌}
use Rattle.mlt_order.specs.{Runs.Runs, Tables.table_with}

-- the items of one number, in order
abbrev pub items_of : {P : Type 0} → ℕ → List (ℕ × P) → List P
items_of i [] = []
items_of i (x ∷ xs) = if x.0 == i then x.1 ∷ items_of i xs else items_of i xs

-- all items, in order
abbrev pub all_items : {P : Type 0} → List (ℕ × P) → List P
all_items [] = []
all_items (x ∷ xs) = x.1 ∷ all_items xs

-- all items of all lists, each with its number, and those of each number in the order of its list
abbrev pub IsInterleaving : {P : Type 0} → (ℕ → List P) → List (ℕ × P) → Type 0
IsInterleaving lists mixed = (i : ℕ) → items_of i mixed ≡ lists i

-- the same, item by item: each is the first that is left of its list, and in the end nothing is left
abbrev pub TakesFirstItems : {P : Type 0} → (ℕ → List P) → List (ℕ × P) → Type 0
TakesFirstItems lists [] = (i : ℕ) → lists i ≡ []
TakesFirstItems {P} lists (x ∷ mixed) =
    (rest : List P) × (lists x.0 ≡ x.1 ∷ rest) × TakesFirstItems (table_with lists x.0 rest) mixed

-- With the transcripts undone the base is left: every interleaving of them leads from the base to the state.
abbrev pub UndoneTo : {S P : Type 0} → (S → P → S → Type 0) → S → (ℕ → List P) → S → Type 0
UndoneTo {S} {P} step base transcripts state =
    (mixed : List (ℕ × P)) → IsInterleaving transcripts mixed → Runs step base (all_items mixed) state
