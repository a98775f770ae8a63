-- The runs of clients, by the places of the clients in their list.
use Rattle.std.specs.Prelude.{◌≡◌, ℕ, ◌<◌, List, [], ◌∷◌, ◌++◌, length, map, slice_index_or, Option, None, IfSome, IsSome}
use Rattle.std.specs.Global.{Vec}
use Rattle.mlt_script.specs.{declared.script.Script.Script, Scripts.ScriptForm}
use Rattle.mlt_script_serial.specs.declared.outcome.Outcome.{Outcome}
use Rattle.mlt_work.specs.{Claims.times, ClientOutcomes.OutcomeRelation, declared.forms.ClientRun.ClientRun}

-- the scripts of each client
abbrev pub scripts_of_clients : List (Vec Script) → List (List ScriptForm)
scripts_of_clients clients = map (λ client. client.items) clients

-- the place of the client of a run
abbrev pub place_of : ClientRun → ℕ
place_of run = run.place

-- the run has outcomes that the scripts of the client at its place may have
abbrev pub IsClientRun : OutcomeRelation → List (List ScriptForm) → ClientRun → Type 0
IsClientRun are_outcomes clients run = (run.place < length clients) × are_outcomes (slice_index_or clients run.place []) run.outcomes.items

-- each run stands at its own place
abbrev pub AreInPlace : OutcomeRelation → List (List ScriptForm) → List (Option ClientRun) → Type 0
AreInPlace are_outcomes clients slots =
    (place : ℕ) → place < length slots → IfSome (slice_index_or slots place None) (λ run. (run.place ≡ place) × IsClientRun are_outcomes clients run)

-- this place has its run
abbrev pub HasRunAt : List (Option ClientRun) → ℕ → Type 0
HasRunAt slots place = IsSome (slice_index_or slots place None)

-- the places that are among these numbers have their runs
abbrev pub HaveRuns : List ℕ → List (Option ClientRun) → Type 0
HaveRuns numbers slots = (place : ℕ) → place < length slots → 0 < times place numbers → HasRunAt slots place

-- each place has its run
abbrev pub AllHaveRuns : List (Option ClientRun) → Type 0
AllHaveRuns slots = (place : ℕ) → place < length slots → HasRunAt slots place

-- a place that had its run has one still
abbrev pub KeepsRuns : List (Option ClientRun) → List (Option ClientRun) → Type 0
KeepsRuns before after = (place : ℕ) → place < length before → HasRunAt before place → HasRunAt after place

-- outcomes that the scripts of each client may have, clients in order
abbrev pub AreAllOutcomes : OutcomeRelation → List (List ScriptForm) → List Outcome → Type 0
AreAllOutcomes are_outcomes [] outcomes = outcomes ≡ []
AreAllOutcomes are_outcomes (client ∷ clients) outcomes =
    (front : List Outcome) × (rest : List Outcome) × (outcomes ≡ front ++ rest) × are_outcomes client front × AreAllOutcomes are_outcomes clients rest
