-- The events of scripts that run alone, one after another, and what each is told
use Rattle.std.specs.Prelude.{ℕ, ◌≡◌, ◌⊎◌, Bool, true, false, List, [], ◌∷◌, ◌++◌, map}
use Rattle.mlt_types.specs.declared.refusal.Refusal.{Refusal}
use Rattle.mlt_object_kinds.specs.{Bases.Transcript, declared.operation.ObjOp.ObjOp, declared.operation.ObjReply.ObjReply}
use Rattle.mlt_script.specs.Scripts.{ScriptForm}
use Rattle.mlt_script_serial.specs.{Follows.Questions, Follows.Reaches, Follows.questions_of_script, Follows.Questions.Asks, declared.outcome.End.End, declared.outcome.End.TheVariants.Committed, declared.outcome.End.TheVariants.Aborted, declared.outcome.End.TheVariants.Refused, declared.outcome.Outcome.Outcome}
use Rattle.mlt_event.specs.declared.{answer.Answer.Answer, event.Event.Event, told.Told.Told}
use Rattle.mlt_manager.specs.{Events.IsRun, Managers.ManagerFields}

-- an event, with what it was told
abbrev pub Exchange : Type 0
Exchange = Event × Told

abbrev pub events_of : List Exchange → List Event
events_of exchanges = map (λ (e : Exchange). e.0) exchanges

abbrev pub tolds_of : List Exchange → List Told
tolds_of exchanges = map (λ (e : Exchange). e.1) exchanges

-- a run of a manager, in which each event is told so
abbrev pub IsRunOf : {P : Type 0} → (P → ℕ → ℕ) → ManagerFields P → List Exchange → ManagerFields P
    → Type 0
IsRunOf bits_of old exchanges new = IsRun bits_of old (events_of exchanges) (tolds_of exchanges) new

-- each operation of the transcript is one event, and is told its reply
abbrev pub done_by : ℕ → Transcript → List Exchange
done_by tx t =
    map (λ (x : ObjOp × ObjReply). (Event.Whole tx x.0, Told.Answered (Answer.Done x.1))) t

-- the transaction begins, and does what its transcript says
abbrev pub begun_by : ℕ → Transcript → List Exchange
begun_by tx t = (Event.Begin, Told.Begun tx) ∷ done_by tx t

-- it is aborted: it is closed at once, or its operations are taken back
abbrev pub taken_back : ℕ → Bool → List Exchange
taken_back tx true = (Event.Abort tx, Told.Aborting true) ∷ []
taken_back tx false =
    (Event.Abort tx, Told.Aborting false) ∷ (Event.WholeUndo tx, Told.Answered Answer.Aborted) ∷ []

-- told the replies of the transcript, the script asks this operation next
abbrev pub IsAskedAfter : ScriptForm → Transcript → ObjOp → Type 0
IsAskedAfter s t op = (after : ObjReply → Questions) × Reaches (questions_of_script s) t (Asks op after)

-- the operation that the script asks next is told this refusal, at its call or at a step
pub record IsToldRefusal (s : ScriptForm) (tx : ℕ) (t : Transcript) (reason : Refusal)
    (last : List Exchange) : Type 0 where
  pub op : ObjOp
  pub asked : IsAskedAfter s t op
  pub said : Told
  pub refused : (said ≡ Told.Refused reason) ⊎ (said ≡ Told.Answered (Answer.Refused reason))
  pub events : last ≡ (Event.Whole tx op, said) ∷ []

-- no transaction begins
pub record IsNotBegun (tx : ℕ) (t : Transcript) (reason : Refusal) (exchanges : List Exchange)
    : Type 0 where
  pub nobody : tx ≡ 0
  pub nothing : t ≡ []
  pub events : exchanges ≡ (Event.Begin, Told.Refused reason) ∷ []

-- it began, was refused, and is aborted
pub record IsCutShort (s : ScriptForm) (tx : ℕ) (t : Transcript) (reason : Refusal)
    (exchanges : List Exchange) : Type 0 where
  pub last : List Exchange
  pub why : IsToldRefusal s tx t reason last
  pub closed : Bool
  pub events : exchanges ≡ begun_by tx t ++ (last ++ taken_back tx closed)

-- The events of a script, which was told the replies of the transcript and ended so. It had the transaction of this
-- number, 0 where none began.
abbrev pub AreEventsOf : ScriptForm → ℕ → Transcript → End → List Exchange → Type 0
AreEventsOf s tx t (Committed number) exchanges =
    exchanges ≡ begun_by tx t ++ (Event.Commit tx, Told.Committed number) ∷ []
AreEventsOf s tx t Aborted exchanges =
    (closed : Bool) × (exchanges ≡ begun_by tx t ++ taken_back tx closed)
AreEventsOf s tx t (Refused reason) exchanges =
    IsNotBegun tx t reason exchanges ⊎ IsCutShort s tx t reason exchanges

-- the events of all scripts, one after another
abbrev pub AreEventsOfAll : List ScriptForm → List Outcome → List Exchange → Type 0
AreEventsOfAll [] [] exchanges = exchanges ≡ []
AreEventsOfAll (s ∷ ss) (o ∷ os) exchanges =
    (first : List Exchange) × (later : List Exchange) × (exchanges ≡ first ++ later)
    × AreEventsOf s o.tx o.done o.end first × AreEventsOfAll ss os later
AreEventsOfAll [] (o ∷ os) exchanges = ⊥
AreEventsOfAll (s ∷ ss) [] exchanges = ⊥
