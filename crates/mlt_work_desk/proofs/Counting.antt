-- An event changes neither what a manager is made with nor the count of events: that counts it before.
use Rattle.std.proofs.Common.{◌≡◌, ℕ, List, [], ◌∷◌, Bool, true, false, Ok, Err, ap, ◌∙◌}
use Rattle.mlt_work_desk.proofs.Names.{Refusal, ObjOp, Answer, Event, Told, counted, Meets, ManagerFields}
use Rattle.mlt_manager.specs.Answers.{AnswersAbort, AnswersCall, ChangesOpen, HasStepped, next_count}
use Rattle.mlt_manager.specs.{Chains.StepsBy, Chains.StepsUpTo, Wholes.DropsIfItStands}
use Rattle.mlt_work_desk.specs.Makings.{Making, making_of}

module _ {P : Type 0} where
  -- what it is made with, and the count
  abbrev kept : ManagerFields P → Making P × ℕ
  kept m = (making_of m, m.events)

  same_kept : (m m' : ManagerFields P) → m' ≡ m → kept m' ≡ kept m
  same_kept m m' same = ap kept same

  open_kept : (m m' : ManagerFields P) → ChangesOpen m m' → kept m' ≡ kept m
  open_kept m m' changes = ap kept changes

  call_kept : (m m' : ManagerFields P) (tx : ℕ) (op : ObjOp) (reason : Refusal) → AnswersCall m m' tx op (Err reason) → kept m' ≡ kept m
  call_kept m m' tx op Refusal.OutOfMemory (may, calls, changes) = open_kept m m' changes
  call_kept m m' tx op other h = same_kept m m' h.1

  step_kept : (bits_of : P → ℕ → ℕ) (m m' : ManagerFields P) (tx : ℕ) (answer : Answer) → HasStepped bits_of m m' tx answer → kept m' ≡ kept m
  step_kept bits_of m m' tx answer s = ap kept s.rest

  steps_kept : (bits_of : P → ℕ → ℕ) (GoesOn : Answer → Type 0) (m : ManagerFields P) (steps : List (ManagerFields P × Answer)) (last : ManagerFields P) (tx : ℕ)
      → StepsBy bits_of GoesOn m steps last tx → kept last ≡ kept m
  steps_kept bits_of GoesOn m [] last tx same = same_kept m last same
  steps_kept bits_of GoesOn m (one ∷ more) last tx (s, on, rest) = steps_kept bits_of GoesOn one.0 more last tx rest ∙ step_kept bits_of m one.0 tx one.1 s

  up_to_kept : (bits_of : P → ℕ → ℕ) (GoesOn Stops : Answer → Type 0) (m m' : ManagerFields P) (tx : ℕ) (answer : Answer) → StepsUpTo bits_of GoesOn Stops m m' tx answer → kept m' ≡ kept m
  up_to_kept bits_of GoesOn Stops m m' tx answer s = step_kept bits_of s.before m' tx answer s.ends ∙ steps_kept bits_of GoesOn m s.steps s.before tx s.goes

  dropped_kept : (m m' : ManagerFields P) (tx : ℕ) (answer : Answer) → DropsIfItStands answer m m' tx → kept m' ≡ kept m
  dropped_kept m m' tx (Answer.Waiting page by) d = open_kept m m' d.rest
  dropped_kept m m' tx (Answer.Blocked by) d = open_kept m m' d.rest
  dropped_kept m m' tx other same = same_kept m m' same

  abort_kept : (m m' : ManagerFields P) (tx : ℕ) (closed : Bool) → AnswersAbort m m' tx (Ok closed) → kept m' ≡ kept m
  abort_kept m m' tx true a = ap kept a.rest
  abort_kept m m' tx false a = ap kept a.rest

  event_kept : (bits_of : P → ℕ → ℕ) (e : Event) (t : Told) (m m' : ManagerFields P) → Meets bits_of e t m m' → kept m' ≡ kept m
  event_kept bits_of Event.Begin (Told.Begun tx) m m' a = ap kept a.rest
  event_kept bits_of Event.Begin (Told.Refused reason) m m' a = same_kept m m' a.1
  event_kept bits_of (Event.Call tx op) Told.Called m m' a = open_kept m m' a.rest
  event_kept bits_of (Event.Call tx op) (Told.Refused reason) m m' a = call_kept m m' tx op reason a
  event_kept bits_of (Event.Step tx) (Told.Answered answer) m m' (a, leaves, named) = step_kept bits_of m m' tx answer a
  event_kept bits_of (Event.Step tx) (Told.Refused reason) m m' a = same_kept m m' a.1
  event_kept bits_of (Event.Cancel tx) Told.Cancelled m m' ((pending, cancels, changes), keeps) = open_kept m m' changes
  event_kept bits_of (Event.Cancel tx) (Told.Refused reason) m m' a = same_kept m m' a.1
  event_kept bits_of (Event.Commit tx) (Told.Committed number) m m' a = ap kept a.rest
  event_kept bits_of (Event.Commit tx) (Told.Refused reason) m m' a = same_kept m m' a.1
  event_kept bits_of (Event.Abort tx) (Told.Aborting closed) m m' a = abort_kept m m' tx closed a
  event_kept bits_of (Event.Abort tx) (Told.Refused reason) m m' a = same_kept m m' a.1
  event_kept bits_of (Event.Whole tx op) (Told.Answered answer) m m' (a, leaves, named) =
      dropped_kept a.runs.stopped m' tx answer a.runs.drops ∙ up_to_kept bits_of _ _ a.called a.runs.stopped tx answer a.runs.steps ∙ open_kept m a.called a.calls.rest
  event_kept bits_of (Event.Whole tx op) (Told.Refused reason) m m' a = call_kept m m' tx op reason a
  event_kept bits_of (Event.WholeUndo tx) (Told.Answered answer) m m' (a, leaves, named) = up_to_kept bits_of _ _ m m' tx answer a.1
  event_kept bits_of (Event.WholeUndo tx) (Told.Refused reason) m m' a = same_kept m m' a.1
  event_kept bits_of Event.Begin other m m' none = absurd none
  event_kept bits_of (Event.Call tx op) other m m' none = absurd none
  event_kept bits_of (Event.Step tx) other m m' none = absurd none
  event_kept bits_of (Event.Cancel tx) other m m' none = absurd none
  event_kept bits_of (Event.Commit tx) other m m' none = absurd none
  event_kept bits_of (Event.Abort tx) other m m' none = absurd none
  event_kept bits_of (Event.Whole tx op) other m m' none = absurd none
  event_kept bits_of (Event.WholeUndo tx) other m m' none = absurd none

  -- **Each event counts once.**
  pub one_event : (bits_of : P → ℕ → ℕ) (e : Event) (t : Told) (m m' : ManagerFields P) → Meets bits_of e t (counted m) m' → m'.events ≡ next_count m.events
  one_event bits_of e t m m' meets = ap (λ (k : Making P × ℕ). k.1) (event_kept bits_of e t (counted m) m' meets)

  -- **And keeps with what the manager was made.**
  pub same_making : (bits_of : P → ℕ → ℕ) (e : Event) (t : Told) (m m' : ManagerFields P) → Meets bits_of e t (counted m) m' → making_of m' ≡ making_of m
  same_making bits_of e t m m' meets = ap (λ (k : Making P × ℕ). k.0) (event_kept bits_of e t (counted m) m' meets)
