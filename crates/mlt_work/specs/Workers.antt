-- Workers, before and after their work.
use Rattle.std.specs.Prelude.{◌≡◌, ℕ, ◌-◌, ◌<◌, ◌≤◌, List, [], ◌∷◌, ◌++◌, All, length, map, Bool, false}
use Rattle.mlt_script.specs.Scripts.{ScriptForm}
use Rattle.mlt_work.specs.{declared.claim_handles.ClaimView.ClaimView, declared.claim_handles.ClientCounter.ClientCounter, declared.claim_handles.ClaimHandle.ClaimHandle, Claims.new_view, Claims.times, Claims.view, ClaimHandles.IsOf, ClaimHandles.view_of, ClientOutcomes.OutcomeRelation, declared.forms.ClientRun.ClientRun, Places.IsClientRun, Places.place_of}

-- what the first handle knows once it was split so often
abbrev pub view_after_splits : ℕ → ℕ → ClaimView
view_after_splits splits clients = view (9 - splits) (8 - splits) clients []

-- a handle that has drawn nothing
abbrev pub IsFresh : ClientCounter → ℕ → ClaimHandle → Type 0
IsFresh counter clients claim_handle = IsOf counter claim_handle × (view_of claim_handle ≡ new_view clients)

-- these places were drawn, and then a number past the last client
abbrev pub HasDrawn : ℕ → List ℕ → List ℕ → Type 0
HasDrawn clients places drawn = (last : ℕ) × (clients ≤ last) × (drawn ≡ places ++ last ∷ [])

-- a number past the last client was drawn
abbrev pub HasDrawnPast : ℕ → List ℕ → Type 0
HasDrawnPast clients drawn = (number : ℕ) × (clients ≤ number) × (0 < times number drawn)

-- A worker's handle and its runs: each is a run of the client at its place. A worker that has not failed ran each client that it
-- claimed, and claimed on until none was left.
pub record HasWorked (are_outcomes : OutcomeRelation) (counter : ClientCounter) (clients : List (List ScriptForm)) (claim_handle : ClaimHandle) (runs : List ClientRun) (failed : Bool) : Type 0 where
  pub seat : IsOf counter claim_handle
  pub parts : (view_of claim_handle).parts ≡ 1
  pub runs_each : All (IsClientRun are_outcomes clients) runs
  pub drew : failed ≡ false → HasDrawn (length clients) (map place_of runs) (view_of claim_handle).drawn
