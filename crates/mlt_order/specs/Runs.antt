-- Steps over any type of states and any type of items, and runs of them.
use Rattle.std.specs.Prelude.{◌≡◌, List, [], ◌∷◌}

-- the items lead, one after another, from the state before to the state after
abbrev pub Runs : {S P : Type 0} → (S → P → S → Type 0) → S → List P → S → Type 0
Runs step before [] after = before ≡ after
Runs {S} step before (item ∷ items) after = (next : S) × step before item next × Runs step next items after

-- the transcripts lead, one after another, from the start to the base
abbrev pub IsSerialBase : {S P : Type 0} → (S → P → S → Type 0) → S → List (List P) → S → Type 0
IsSerialBase step start [] base = start ≡ base
IsSerialBase {S} step start (transcript ∷ transcripts) base =
    (next : S) × Runs step start transcript next × IsSerialBase step next transcripts base

-- the state before and the item fix the state after
abbrev pub IsFunctional : {S P : Type 0} → (S → P → S → Type 0) → Type 0
IsFunctional {S} {P} step = (before one other : S) (item : P) → step before item one → step before item other → one ≡ other

-- the state after and the item fix the state before
abbrev pub IsInjective : {S P : Type 0} → (S → P → S → Type 0) → Type 0
IsInjective {S} {P} step = (one other after : S) (item : P) → step one item after → step other item after → one ≡ other

-- The requested item right commutes backward with the held one: wherever the held one and then the requested one lead
-- from one state to another, so do the requested one and then the held one.
abbrev pub RightCommutesBackward : {S P : Type 0} → (S → P → S → Type 0) → P → P → Type 0
RightCommutesBackward {S} step held requested =
    (before middle after : S) → step before held middle → step middle requested after →
    (other : S) × step before requested other × step other held after
