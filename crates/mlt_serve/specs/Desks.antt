-- Desks of sessions, at which a begin may be refused though no event of the manager was.
use Rattle.std.specs.Prelude.{ℕ, ◌≡◌, ◌⊎◌, List, Result, All}
use Rattle.mlt_types.specs.declared.refusal.Refusal.{Refusal}
use Rattle.mlt_script_serial.specs.declared.{call.DeskAnswer.DeskAnswer, call.DeskCall.DeskCall, outcome.Outcome.Outcome}
use Rattle.mlt_serve_session.specs.{Given.GaveAll, Sessions.Scene, Sessions.SessionAnswers, Sessions.scene, declared.sessions.Summary.Summary}
use Rattle.mlt_work_desk.specs.{Holds.Answers, LogHandles.begun_by, LogHandles.seen_by, Tries.tries_of, Views.DeskView, Views.desk_view, declared.log_handles.LogSnapshot.LogSnapshot, declared.tries.Tries.Tries}
use Rattle.mlt_serve.specs.Loads.{Ends}

-- A begin was refused as one is to which memory is, and nothing has changed.
pub record IsHeldBack (before : DeskView) (asked : DeskCall) (given : DeskAnswer) (after : DeskView) : Type 0 where
  pub begins : asked ≡ DeskCall.Begin
  pub refused : given ≡ DeskAnswer.Refused Refusal.OutOfMemory
  pub same : after ≡ before

-- a call is answered as at a desk over a lock, or is a begin that is held back
abbrev pub AnswersOrHolds : {P : Type 0} → (P → ℕ → ℕ) → DeskView → DeskCall → DeskAnswer → DeskView → Type 0
AnswersOrHolds bits_of before asked given after = Answers bits_of before asked given after ⊎ IsHeldBack before asked given after

-- Such a desk, which was given these tries, has told all that is in the outcome.
pub record IsGiven {P : Type 0} (bits_of : P → ℕ → ℕ) (tries : Tries) (o : Outcome) : Type 0 where
  pub desk : DeskView
  pub given : desk.tries.given ≡ tries
  pub gave : GaveAll (AnswersOrHolds bits_of) desk o

-- there is such a desk for the outcome
abbrev pub WasGiven : {P : Type 0} → (P → ℕ → ℕ) → Tries → Outcome → Type 0
WasGiven bits_of tries o = ∥ IsGiven bits_of tries o ∥₁

-- there is one for each of these
abbrev pub AreGiven : {P : Type 0} → (P → ℕ → ℕ) → Tries → List Outcome → Type 0
AreGiven bits_of tries outcomes = All (WasGiven bits_of tries) outcomes

-- what a session reads and writes, and the outcomes that it adds to, with the view of its desk
abbrev pub scene_at : DeskView → Ends → List Outcome → Scene DeskView
scene_at desk ends outcomes = scene desk ends.unread ends.written outcomes

-- A session of this client went at a desk with so many tries, which had made no event: it goes on from what the one snapshot shows
-- to what the other one does.
pub record IsSessionAt {P : Type 0} (bits_of : P → ℕ → ℕ) (tries : Tries) (client : ℕ) (first last : LogSnapshot)
    (old new : Ends) (before after : List Outcome) (result : Result Summary Refusal) : Type 0 where
  pub desk : DeskView
  pub past : desk.past ≡ seen_by last
  pub begun : desk.begun ≡ begun_by last
  pub answers : SessionAnswers (AnswersOrHolds bits_of) client (scene_at (desk_view first (tries_of tries) 0) old before)
      (scene_at desk new after) result
