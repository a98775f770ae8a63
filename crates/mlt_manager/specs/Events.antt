-- One event of a manager, and a list of events
use Rattle.std.specs.Prelude.{ℕ, ◌≡◌, List, [], ◌∷◌, Result, Ok, Err}
use Rattle.mlt_types.specs.declared.{refusal.Refusal.Refusal, limits.Limits.Limits}
use Rattle.mlt_event.specs.declared.{answer.Answer.Answer, event.Event.Event, told.Told.Told}
use Rattle.mlt_manager.specs.Answers.{AnswersAbort, AnswersBegin, AnswersCall, AnswersCancel, AnswersCommit, AnswersStep, IsByAnother, counted}
use Rattle.mlt_manager.specs.{Bases.KeepsWhatCounts, Bases.LeavesBase, Bases.UndoingLeavesBase, Bases.WholeLeavesBase, Managers.ManagerFields, Openings.IsNew, Promises.KeepsPromises, Undoings.AnswersWholeUndo, Wholes.AnswersWhole}

-- the answer to a step, or to the last of several, as an event is told it
abbrev pub told_of : Result Answer Refusal → Told
told_of (Ok answer) = Told.Answered answer
told_of (Err reason) = Told.Refused reason

-- an event that was told this meets the contract of its call, from this manager to that one
abbrev pub Meets : {P : Type 0} → (P → ℕ → ℕ) → Event → Told → ManagerFields P → ManagerFields P → Type 0
Meets bits_of Event.Begin (Told.Begun tx) old new = AnswersBegin old new (Ok tx)
Meets bits_of Event.Begin (Told.Refused reason) old new = AnswersBegin old new (Err reason)
Meets bits_of (Event.Call tx op) Told.Called old new = AnswersCall old new tx op (Ok tt)
Meets bits_of (Event.Call tx op) (Told.Refused reason) old new = AnswersCall old new tx op (Err reason)
Meets bits_of (Event.Step tx) (Told.Answered answer) old new =
    AnswersStep bits_of old new tx (Ok answer) × LeavesBase answer old new tx
    × IsByAnother answer new.txs tx
Meets bits_of (Event.Step tx) (Told.Refused reason) old new = AnswersStep bits_of old new tx (Err reason)
Meets bits_of (Event.Cancel tx) Told.Cancelled old new =
    AnswersCancel old new tx (Ok tt) × KeepsWhatCounts old new
Meets bits_of (Event.Cancel tx) (Told.Refused reason) old new = AnswersCancel old new tx (Err reason)
Meets bits_of (Event.Commit tx) (Told.Committed number) old new = AnswersCommit old new tx (Ok number)
Meets bits_of (Event.Commit tx) (Told.Refused reason) old new = AnswersCommit old new tx (Err reason)
Meets bits_of (Event.Abort tx) (Told.Aborting closed) old new = AnswersAbort old new tx (Ok closed)
Meets bits_of (Event.Abort tx) (Told.Refused reason) old new = AnswersAbort old new tx (Err reason)
Meets bits_of (Event.Whole tx op) (Told.Answered answer) old new =
    AnswersWhole bits_of old new tx op (Ok answer) × WholeLeavesBase answer old new tx op
    × IsByAnother answer new.txs tx
Meets bits_of (Event.Whole tx op) (Told.Refused reason) old new =
    AnswersWhole bits_of old new tx op (Err reason)
Meets bits_of (Event.WholeUndo tx) (Told.Answered answer) old new =
    AnswersWholeUndo bits_of old new tx (Ok answer) × UndoingLeavesBase answer old new tx
    × IsByAnother answer new.txs tx
Meets bits_of (Event.WholeUndo tx) (Told.Refused reason) old new =
    AnswersWholeUndo bits_of old new tx (Err reason)
Meets bits_of event other old new = ⊥

-- A run: from the manager before, each event meets the contract of its call, with what it was told.
abbrev pub IsRun : {P : Type 0} → (P → ℕ → ℕ) → ManagerFields P → List Event → List Told
    → ManagerFields P → Type 0
IsRun bits_of old [] [] new = new ≡ old
IsRun {P = P} bits_of old (event ∷ events) (told ∷ tolds) new =
    (next : ManagerFields P) × Meets bits_of event told (counted old) next
    × IsRun bits_of next events tolds new
IsRun bits_of old events tolds new = ⊥

-- A run from a new manager with these limits and this function to pseudokeys. What is promised of a manager holds of the last one, to
-- which it leads.
pub record Plays {P : Type 0} (bits_of : P → ℕ → ℕ) (limits : Limits) (pseudo : P)
    (events : List Event) (tolds : List Told) (last : ManagerFields P) : Type 0 where
  pub first : ManagerFields P
  pub is_new : IsNew first limits pseudo
  pub run : IsRun bits_of first events tolds last
  pub promises : KeepsPromises bits_of last

-- an event that leaves no operation and no inverse running, where none ran
abbrev pub IsWholeEvent : Event → Type 0
IsWholeEvent Event.Begin = Unit {0}
IsWholeEvent (Event.Whole tx op) = Unit {0}
IsWholeEvent (Event.Commit tx) = Unit {0}
IsWholeEvent (Event.Abort tx) = Unit {0}
IsWholeEvent (Event.WholeUndo tx) = Unit {0}
IsWholeEvent other = ⊥

-- whole events alone: begins, whole operations, commits, aborts and whole undoings
abbrev pub AreWholeEvents : List Event → Type 0
AreWholeEvents [] = Unit {0}
AreWholeEvents (event ∷ events) = IsWholeEvent event × AreWholeEvents events

-- no answer is that one waits
abbrev pub IsNoWait : Told → Type 0
IsNoWait (Told.Answered (Answer.Waiting page by)) = ⊥
IsNoWait other = Unit {0}

-- none is told that it waits
abbrev pub NoneWaits : List Told → Type 0
NoneWaits [] = Unit {0}
NoneWaits (told ∷ tolds) = IsNoWait told × NoneWaits tolds
