-- What a hold of the lock tells, and what a desk sees of the history by it.
use Rattle.std.specs.Prelude.{ℕ, ◌≡◌, ◌⊎◌, true, List, [], ◌∷◌, ◌++◌, Contains}
use Rattle.mlt_types.specs.declared.refusal.Refusal.{Refusal}
use Rattle.mlt_object_kinds.specs.declared.operation.ObjOp.{ObjOp}
use Rattle.mlt_script_serial.specs.declared.call.{DeskAnswer.DeskAnswer, DeskCall.DeskCall}
use Rattle.mlt_script_serial.specs.declared.call.DeskAnswer.TheVariants.{Begun, Replied, Committed, Aborted, Refused}
use Rattle.mlt_event.specs.declared.{answer.Answer.Answer, event.Event.Event, told.Told.Told}
use Rattle.mlt_trace.specs.{Items.TellsOf, declared.item.TraceItem.TraceItem}
use Rattle.mlt_manager.specs.{Answers.counted, Courses.AddsItems, Courses.Course, Events.Meets, Managers.IsManager, Managers.ManagerFields}
use Rattle.mlt_work_desk.specs.{Acts.AreEventsFor, Tries.GivesUp, Tries.SpendsTries, Views.DeskView, Views.HasMade, declared.tries.TriesLeft.TriesLeft}
use Rattle.mlt_work_waits.specs.Gates.{is_to_wait}

-- An event of some manager was told this, and met the contract of its call. What is always true of a manager is true of it
-- before the event and after it.
pub record IsToldTo {P : Type 0} (bits_of : P → ℕ → ℕ) (event : Event) (told : Told) : Type 0 where
  pub before : ManagerFields P
  pub after : ManagerFields P
  pub sound_before : IsManager bits_of before
  pub sound_after : IsManager bits_of after
  pub meets : Meets bits_of event told (counted before) after

-- the last item tells that some transaction did this operation
pub record EndsWithOp (items : List TraceItem) (op : ObjOp) : Type 0 where
  pub front : List TraceItem
  pub last : TraceItem
  pub whole : items ≡ front ++ last ∷ []
  pub tells : TellsOf last op

-- what comes only where another desk acts for the transaction: a reply, where the history does not end with this operation; or that the
-- transaction is taken back, or runs no operation
abbrev pub ComesOfAnother : Told → List TraceItem → ObjOp → Type 0
ComesOfAnother (Told.Answered (Answer.Done reply)) items op = EndsWithOp items op → ⊥
ComesOfAnother (Told.Answered Answer.Undone) items op = Unit {0}
ComesOfAnother (Told.Answered Answer.Aborted) items op = Unit {0}
ComesOfAnother (Told.Refused refusal) items op = Unit {0}
ComesOfAnother other items op = ⊥

-- What a desk had seen of the history before an event of it was told this, and what it has seen then: what others have added between,
-- and what the event has added.
pub record SeesEvent (before : List TraceItem) (event : Event) (told : Told) (after : List TraceItem) : Type 0 where
  pub between : List TraceItem
  pub course : Course
  pub next : Course
  pub here : List TraceItem
  pub whole : after ≡ (before ++ between) ++ here
  pub adds : AddsItems course event told next here

-- the transaction that an event began, if it did
abbrev pub txs_begun : Event → Told → List ℕ
txs_begun Event.Begin (Told.Begun tx) = tx ∷ []
txs_begun event told = []

-- what a desk has begun, after an event of it was told this
abbrev pub HasBegun : List ℕ → Event → Told → List ℕ → Type 0
HasBegun before Event.Begin (Told.Begun tx) after = after ≡ before ++ tx ∷ []
HasBegun before event told after = after ≡ before

-- A step of the transaction was told what comes only where another desk acts for it, and the desk has seen the history up to that step.
pub record IsOfAnother {P : Type 0} (bits_of : P → ℕ → ℕ) (tx : ℕ) (op : ObjOp) (history : List TraceItem) : Type 0 where
  pub told : Told
  pub before : List TraceItem
  pub comes : ComesOfAnother told history op
  pub stepped : IsToldTo bits_of (Event.Step tx) told
  pub sees : SeesEvent before (Event.Step tx) told history

-- of an event that is a step with a reply
abbrev pub IfReply : Event → Told → Type 0 → Type 0
IfReply (Event.Step tx) (Told.Answered (Answer.Done reply)) X = X
IfReply event told X = Unit {0}

-- An operation was to wait, and was cancelled, for one of the reasons to give up.
pub record IsGivenUp {P : Type 0} (bits_of : P → ℕ → ℕ) (tx : ℕ) (tries : TriesLeft) : Type 0 where
  pub told : Told
  pub cancelled : Told
  pub to_wait : is_to_wait told ≡ true
  pub stepped : IsToldTo bits_of (Event.Step tx) told
  pub cancels : IsToldTo bits_of (Event.Cancel tx) cancelled
  pub reason : GivesUp tx tries

-- what a commit may be refused with
abbrev pub IsOfCommit : Refusal → Type 0
IsOfCommit Refusal.NoSuchTx = Unit {0}
IsOfCommit Refusal.Undoing = Unit {0}
IsOfCommit Refusal.Running = Unit {0}
IsOfCommit other = ⊥

-- what an operation may be refused with
abbrev pub IsOfOperation : Refusal → Type 0
IsOfOperation Refusal.LogFull = Unit {0}
IsOfOperation Refusal.NoRoom = Unit {0}
IsOfOperation Refusal.OutOfMemory = Unit {0}
IsOfOperation Refusal.GaveUp = Unit {0}
IsOfOperation other = IsOfCommit other

-- what a begin may be refused with
abbrev pub IsOfBegin : Refusal → Type 0
IsOfBegin Refusal.TooManyOpen = Unit {0}
IsOfBegin Refusal.IdsSpent = Unit {0}
IsOfBegin Refusal.OutOfMemory = Unit {0}
IsOfBegin other = ⊥

-- Why an operation is refused: its call was, or a step of it; another desk acts for its transaction; or it gave up.
abbrev pub WhyRefused : {P : Type 0} → (P → ℕ → ℕ) → ℕ → ObjOp → Refusal → DeskView → Type 0
WhyRefused bits_of tx op reason after =
    IsToldTo bits_of (Event.Call tx op) (Told.Refused reason)
    ⊎ IsToldTo bits_of (Event.Step tx) (Told.Answered (Answer.Refused reason))
    ⊎ ((reason ≡ Refusal.NoSuchTx) × IsOfAnother bits_of tx op after.past.items)
    ⊎ ((reason ≡ Refusal.GaveUp) × IsGivenUp bits_of tx after.tries)

-- what an operation may answer: a reply that a step answered, or one of its refusals
abbrev pub MayAnswerOperation : {P : Type 0} → (P → ℕ → ℕ) → ℕ → ObjOp → DeskAnswer → DeskView → Type 0
MayAnswerOperation bits_of tx op (Replied reply) after =
    IsToldTo bits_of (Event.Step tx) (Told.Answered (Answer.Done reply))
MayAnswerOperation bits_of tx op (Refused refusal) after = IsOfOperation refusal × WhyRefused bits_of tx op refusal after
MayAnswerOperation bits_of tx op other after = ⊥

-- what a call may answer: a number or a reply that an event answered, or one of its refusals, for its reason
abbrev pub MayAnswer : {P : Type 0} → (P → ℕ → ℕ) → DeskCall → DeskAnswer → DeskView → Type 0
MayAnswer bits_of DeskCall.Begin (Begun tx) after = IsToldTo bits_of Event.Begin (Told.Begun tx)
MayAnswer bits_of DeskCall.Begin (Refused refusal) after =
    IsOfBegin refusal × IsToldTo bits_of Event.Begin (Told.Refused refusal)
MayAnswer bits_of (DeskCall.Operation tx op) given after = MayAnswerOperation bits_of tx op given after
MayAnswer bits_of (DeskCall.Commit tx) (Committed number) after = IsToldTo bits_of (Event.Commit tx) (Told.Committed number)
MayAnswer bits_of (DeskCall.Commit tx) (Refused refusal) after =
    IsOfCommit refusal × IsToldTo bits_of (Event.Commit tx) (Told.Refused refusal)
MayAnswer bits_of (DeskCall.Abort tx) Aborted after = Unit {0}
MayAnswer bits_of asked given after = ⊥

-- these items have what a call was answered: that the transaction has begun, has committed under this number, or did the operation with
-- this reply
abbrev pub HaveAnswer : List TraceItem → DeskCall → DeskAnswer → Type 0
HaveAnswer items DeskCall.Begin (Begun tx) = Contains items (TraceItem.Begin tx)
HaveAnswer items (DeskCall.Operation tx op) (Replied reply) = Contains items (TraceItem.Op tx (op, reply))
HaveAnswer items (DeskCall.Commit tx) (Committed number) = Contains items (TraceItem.Commit tx number)
HaveAnswer items asked given = Unit {0}

-- What a desk had seen of the history before it gave this answer to a call, and what it has seen then: more items, which have the answer.
pub record SeesAnswer (before : List TraceItem) (asked : DeskCall) (given : DeskAnswer) (after : List TraceItem) : Type 0 where
  pub more : List TraceItem
  pub whole : after ≡ before ++ more
  pub have : HaveAnswer more asked given

-- what a desk has begun, after it gave this answer to a call: no transaction twice, and none that another desk has begun
abbrev pub Begins : List ℕ → DeskCall → DeskAnswer → List ℕ → Type 0
Begins before DeskCall.Begin (Begun tx) after = after ≡ before ++ tx ∷ []
Begins before asked given after = after ≡ before

-- For a call the desk has made just its events. It has the answer of one or one of its refusals, the history has that answer, the
-- desk has begun what it says, and tries are spent as they are to be.
pub record Answers {P : Type 0} (bits_of : P → ℕ → ℕ) (before : DeskView) (asked : DeskCall) (given : DeskAnswer) (after : DeskView) : Type 0 where
  pub own : List (Event × Told)
  pub made : HasMade before after own
  pub events : AreEventsFor asked own
  pub may : MayAnswer bits_of asked given after
  pub sees : SeesAnswer before.past.items asked given after.past.items
  pub begins : Begins before.begun asked given after.begun
  pub spends : SpendsTries before.tries asked own after.tries
