-- Whose outcomes they are, what is in them, and how they stand.
use Rattle.std.specs.Prelude.{◌≡◌, ◌==◌, ◌⊎◌, ℕ, ◌+◌, ◌<◌, ◌≤◌, ◌++◌, List, [], ◌∷◌, All, AllPairs, if◌then◌else◌}
use Rattle.mlt_script_serial.specs.declared.outcome.Outcome.{Outcome}
use Rattle.mlt_trace.specs.declared.item.TraceItem.{TraceItem}
use Rattle.mlt_serve.specs.Tellings.{TellsOutcomes}

-- the outcome is that of this client
abbrev pub IsOf : ℕ → Outcome → Type 0
IsOf client o = o.client ≡ client

-- to these outcomes others were added at the end, all of this client, and the history tells all that is in them
pub record GrowsFor (items : List TraceItem) (client : ℕ) (before after : List Outcome) : Type 0 where
  pub more : List Outcome
  pub appended : after ≡ before ++ more
  pub of_client : All (IsOf client) more
  pub told : TellsOutcomes items more

-- the outcome is that of one of the first connections, which have the numbers from 1 to the limit
abbrev pub IsOfClient : ℕ → Outcome → Type 0
IsOfClient limit o = (1 ≤ o.client) × (o.client ≤ limit)

-- each outcome is that of one of the first connections, which have the numbers from 1 to the limit
abbrev pub AreOfClients : ℕ → List Outcome → Type 0
AreOfClients limit outcomes = All (IsOfClient limit) outcomes

-- it is of an earlier client, or of the same one and has no greater number
abbrev pub MayPrecede : Outcome → Outcome → Type 0
MayPrecede one other = (one.client < other.client) ⊎ ((one.client ≡ other.client) × (one.number ≤ other.number))

-- each outcome is of an earlier client than any behind it, or of the same one with no greater number
abbrev pub AreByClientAndNumber : List Outcome → Type 0
AreByClientAndNumber outcomes = AllPairs MayPrecede outcomes

-- behind an outcome of this client and number it is the next one of the client, or the first one of a later client
abbrev pub ComesNext : ℕ → ℕ → Outcome → Type 0
ComesNext client number o = (client ≤ o.client) × (o.number ≡ (if o.client == client then number + 1 else 1))

-- behind such an outcome, clients stand in order, and the outcomes of each have the numbers 1, 2, 3 and so on
abbrev pub AreNumbered : ℕ → ℕ → List Outcome → Type 0
AreNumbered client number [] = Unit {0}
AreNumbered client number (o ∷ os) = ComesNext client number o × AreNumbered o.client o.number os
