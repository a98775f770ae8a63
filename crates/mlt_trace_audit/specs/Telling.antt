-- How far a history has told what an outcome tells
use Rattle.std.specs.Prelude.{◌≡◌, ◌≢◌, ◌<◌, ◌≤◌, ◌+◌, ◌-◌, ℕ, List, [], ◌∷◌, Some, cond, false, true, length, slice_get, slice_index_or, take}
use Rattle.mlt_trace.specs.declared.item.TraceItem.{TraceItem}
use Rattle.mlt_script_serial.specs.declared.outcome.Outcome.{Outcome}
use Rattle.mlt_trace_audit.specs.Outcomes.{closing_by, closings_of, ops_of}
use Rattle.mlt_trace_audit.specs.declared.progress.Progress.{Progress}

-- these items have of the outcome's transaction so many of the operations that the outcome tells, the first ones, and its close
-- if it was told
pub record HasTold (o : Outcome) (items : List TraceItem) (p : Progress) : Type 0 where
  pub few : p.ops ≤ length o.done
  pub ops : ops_of o.tx items ≡ take p.ops o.done
  pub closed : closings_of o.tx items ≡ cond p.closed (closing_by o.end ∷ []) []

-- so it is where nothing was told
abbrev pub nothing_told : Progress
nothing_told = record { ops = 0; closed = false }

-- all was told that the outcome tells
abbrev pub IsWhole : Progress → Outcome → Type 0
IsWhole p o = (p.closed ≡ true) × (p.ops ≡ length o.done)

-- and so it is of the outcome's transaction, of which the progress stands at the place of its number
abbrev pub IsWholeIn : List Progress → Outcome → Type 0
IsWholeIn told o = o.tx ≢ 0 → IsWhole (slice_index_or told (o.tx - 1) nothing_told) o

-- at place k, counted from 0, stands the place of the outcome of transaction k + 1, counted from 1
abbrev pub ArePlacesOf : List ℕ → List Outcome → Type 0
ArePlacesOf places outcomes =
    (k : ℕ) → k < length places → (o : Outcome)
    × (0 < slice_index_or places k 0)
    × (slice_get outcomes (slice_index_or places k 0 - 1) ≡ Some o)
    × (o.tx ≡ k + 1)
