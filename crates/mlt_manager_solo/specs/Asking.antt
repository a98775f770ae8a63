-- What the operations of a script, and its end, do to a manager
use Rattle.std.specs.Prelude.{ℕ, ◌≡◌, ◌⊎◌, Bool, List, [], ◌∷◌, Option, None, Some, map}
use Rattle.mlt_types.specs.declared.refusal.Refusal.{Refusal}
use Rattle.mlt_object_kinds.specs.{Bases.Base, Bases.TranscriptLeads, Bases.Transcript, declared.operation.ObjOp.ObjOp}
use Rattle.mlt_script.specs.Scripts.{ScriptForm}
use Rattle.mlt_script_serial.specs.{declared.outcome.End.End, declared.outcome.End.TheVariants.Refused, declared.outcome.Outcome.Outcome, Serial.AreNumbered, Serial.AreRuns, Serial.IsScriptRun, Serial.mark_of}
use Rattle.mlt_event.specs.declared.{answer.Answer.Answer, event.Event.Event, told.Told.Told}
use Rattle.mlt_manager.specs.{Answers.counted, Bases.HasBase, Events.Meets, Managers.ManagerFields}
use Rattle.mlt_manager_solo.specs.Alone.{KeepsCommitted}
use Rattle.mlt_manager_solo.specs.Events.{AreEventsOf, AreEventsOfAll, Exchange, IsRunOf, taken_back}

-- what a script may be refused with: there is no memory or no room, or it has too many operations, or all numbers of
-- transactions were given out
abbrev pub CanMark : Refusal → Type 0
CanMark Refusal.OutOfMemory = Unit {0}
CanMark Refusal.NoRoom = Unit {0}
CanMark Refusal.LogFull = Unit {0}
CanMark Refusal.IdsSpent = Unit {0}
CanMark other = ⊥

-- the operation is refused, and nothing is done
pub record IsRefused {P : Type 0} (bits_of : P → ℕ → ℕ) (old new : ManagerFields P) (tx : ℕ)
    (op : ObjOp) (reason : Refusal) : Type 0 where
  pub said : Told
  pub refused : (said ≡ Told.Refused reason) ⊎ (said ≡ Told.Answered (Answer.Refused reason))
  pub meets : Meets bits_of (Event.Whole tx op) said (counted old) new
  pub keeps : KeepsCommitted old new
  pub can : CanMark reason

-- these events were told so, and the operations of the transcript are done
pub record HasAsked {P : Type 0} (bits_of : P → ℕ → ℕ) (old new : ManagerFields P) (t : Transcript)
    (exchanges : List Exchange) : Type 0 where
  pub run : IsRunOf bits_of old exchanges new
  pub leads : (base : Base) → HasBase old base → (next : Base) × TranscriptLeads base t next × HasBase new next
  pub keeps : KeepsCommitted old new

-- the transaction is taken back
pub record IsTakenBack {P : Type 0} (bits_of : P → ℕ → ℕ) (old new : ManagerFields P) (tx : ℕ)
    : Type 0 where
  pub closed : Bool
  pub run : IsRunOf bits_of old (taken_back tx closed) new
  pub keeps : KeepsCommitted old new

-- where a script is refused, it is so
abbrev pub CanEnd : End → Type 0
CanEnd (Refused reason) = CanMark reason
CanEnd other = Unit {0}

-- The script ran, was told the replies of the transcript, and ended so. It had the transaction of this number, 0 where
-- none began.
pub record HasRunScript {P : Type 0} (bits_of : P → ℕ → ℕ) (s : ScriptForm)
    (old new : ManagerFields P) (tx : ℕ) (t : Transcript) (end : End) : Type 0 where
  pub leads : (base : Base) → HasBase old base
      → (next : Base) × HasBase new next × IsScriptRun s base old.commits t end next new.commits
  pub exchanges : List Exchange
  pub told : AreEventsOf s tx t end exchanges
  pub run : IsRunOf bits_of old exchanges new
  pub can : CanEnd end

-- each mark is of a refusal that a script may meet
abbrev pub CanBeMarks : List (Option (ℕ × Refusal)) → Type 0
CanBeMarks [] = Unit {0}
CanBeMarks (None ∷ marks) = CanBeMarks marks
CanBeMarks (Some mark ∷ marks) = CanMark mark.1 × CanBeMarks marks

-- the scripts ran one after another
pub record HasRunAll {P : Type 0} (bits_of : P → ℕ → ℕ) (scripts : List ScriptForm)
    (old new : ManagerFields P) (outcomes : List Outcome) : Type 0 where
  pub leads : (base : Base) → HasBase old base
      → (next : Base) × HasBase new next × AreRuns scripts base old.commits outcomes next new.commits
  pub exchanges : List Exchange
  pub told : AreEventsOfAll scripts outcomes exchanges
  pub run : IsRunOf bits_of old exchanges new
  pub can : CanBeMarks (map mark_of outcomes)
  pub numbered : AreNumbered [] scripts outcomes
