-- Which events a desk makes for a call.
use Rattle.std.specs.Prelude.{ℕ, ◌≡◌, ◌⊎◌, false, List, [], ◌∷◌, ◌++◌, All}
use Rattle.mlt_event.specs.declared.{answer.Answer.Answer, event.Event.Event, told.Told.Told}
use Rattle.mlt_script_serial.specs.declared.call.DeskCall.{DeskCall}
use Rattle.mlt_work_desk.specs.Views.{DeskView, HasMade}

-- a step of the transaction, or the cancel of its operation
abbrev pub IsStepOf : ℕ → Event × Told → Type 0
IsStepOf tx act = (act.0 ≡ Event.Step tx) ⊎ (act.0 ≡ Event.Cancel tx)

-- told this, no step of an abort follows: the transaction was taken back, or the desk may not act for it
abbrev pub EndsAbort : Told → Type 0
EndsAbort (Told.Answered Answer.Aborted) = Unit {0}
EndsAbort (Told.Refused refusal) = Unit {0}
EndsAbort other = ⊥

-- Steps by which a transaction is taken back, up to the last one.
pub record AreUndoSteps (tx : ℕ) (own : List (Event × Told)) : Type 0 where
  pub front : List (Event × Told)
  pub last : Told
  pub whole : own ≡ front ++ (Event.Step tx, last) ∷ []
  pub steps : All (λ act. act.0 ≡ Event.Step tx) front
  pub ends : EndsAbort last

-- A desk has taken a transaction back by such steps.
pub record HasUndone (tx : ℕ) (before after : DeskView) : Type 0 where
  pub own : List (Event × Told)
  pub made : HasMade before after own
  pub steps : AreUndoSteps tx own

-- what follows on an abort that was told this: steps, where there is something to take back
abbrev pub FollowAbort : ℕ → Told → List (Event × Told) → Type 0
FollowAbort tx (Told.Aborting false) rest = AreUndoSteps tx rest
FollowAbort tx other rest = rest ≡ []

-- the events of a call: one Begin, or Commit; a Call, and then steps, or a Cancel; an Abort, and then steps
abbrev pub AreEventsFor : DeskCall → List (Event × Told) → Type 0
AreEventsFor DeskCall.Begin own = (told : Told) × (own ≡ (Event.Begin, told) ∷ [])
AreEventsFor (DeskCall.Operation tx op) own =
    (told : Told) × (rest : List (Event × Told)) × (own ≡ (Event.Call tx op, told) ∷ rest) × All (IsStepOf tx) rest
AreEventsFor (DeskCall.Commit tx) own = (told : Told) × (own ≡ (Event.Commit tx, told) ∷ [])
AreEventsFor (DeskCall.Abort tx) own =
    (told : Told) × (rest : List (Event × Told)) × (own ≡ (Event.Abort tx, told) ∷ rest) × FollowAbort tx told rest
