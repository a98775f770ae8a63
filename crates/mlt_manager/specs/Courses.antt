-- The course of transactions: what events make of it, by what they were told, and what is promised of it
use Rattle.std.specs.Prelude.{ℕ, ◌≡◌, ◌≢◌, ◌+◌, ◌-◌, List, [], ◌∷◌, ◌++◌, length, replicate, Option, None, Some, Contains, true, false}
use Rattle.std.specs.Ordering.{nat_cmp}
use Rattle.std.specs.FinMap as map
use Rattle.mlt_types.specs.declared.refusal.Refusal.{Refusal, TheVariants.IdsSpent, TheVariants.LogFull, TheVariants.NoRoom, TheVariants.OutOfMemory, TheVariants.TooManyOpen}
use Rattle.mlt_object_kinds.specs.{Bases.Base, Bases.empty_base, declared.operation.ObjOp.ObjOp, declared.operation.ObjReply.ObjReply}
use Rattle.mlt_order.specs.{Interleavings.UndoneTo, Runs.IsSerialBase, Tables.table_with}
use Rattle.mlt_event.specs.declared.answer.Answer.TheVariants.{Going, Waiting, Blocked, Done, Undone, Aborted, Refused}
use Rattle.mlt_event.specs.declared.{event.Event.Event, told.Told.Told}
use Rattle.mlt_event.specs.declared.told.Told.TheVariants.{Begun, Called, Answered, Cancelled, Committed, Aborting, Refused}
use Rattle.mlt_object_base.specs.declared.request.Request.{Request, TheVariants.Do, TheVariants.TakeBack}
use Rattle.mlt_order.specs.Histories.{lists_of}
use Rattle.mlt_trace.specs.{Entries.entries_of, declared.item.TraceItem.TraceItem}
use Rattle.mlt_page.specs.declared.page.Page.{Page}
use Rattle.mlt_tx.specs.{Tables.KeepsImage, declared.transaction.At.At, declared.transaction.Transaction.Transaction}
use Rattle.mlt_manager.specs.{Bases.HasCleanPages, Headline.PagesMean, Managers.ManagerFields, Objects.Does}

-- operations of a transaction, with the replies that it was told
abbrev pub Ops : Type 0
Ops = List (ObjOp × ObjReply)

-- what a transaction is at: `NotOpen` before its begin and behind its end
pub data Life : Type 0 where
  NotOpen : Life
  Idle : Life
  Pending : (op : ObjOp) → Life
  Undoing : Life

-- an operation is pending, or the abort has begun
abbrev pub IsBusy : Life → Type 0
IsBusy life = (life ≢ NotOpen) × (life ≢ Idle)

-- how many have begun; what those did that committed, in that order; what each is at; what it did, if open, and has not taken back
pub record Course : Type 0 where
  pub begun : ℕ
  pub committed : List Ops
  pub life : ℕ → Life
  pub ops : ℕ → Ops

abbrev pub opening_course : Course
opening_course = record { begun = 0; committed = []; life = λ tx. NotOpen; ops = λ tx. [] }

-- the transaction turns from one life to another, and has these operations then
abbrev pub Turns : Course → ℕ → Life → Life → Ops → Course → Type 0
Turns c tx from to ops d =
    (c.life tx ≡ from) × (d ≡ record c { life = table_with c.life tx to; ops = table_with c.ops tx ops })

-- why an event is refused that is for another life
abbrev pub reason_at : Life → Event → Refusal
reason_at NotOpen event = Refusal.NoSuchTx
reason_at Idle event = Refusal.NotRunning
reason_at (Pending op) (Event.WholeUndo tx) = Refusal.NotRunning
reason_at (Pending op) event = Refusal.Running
reason_at Undoing event = Refusal.Undoing

-- why a call is refused
abbrev pub MayRefuseCall : Life → Event → Refusal → Type 0
MayRefuseCall Idle event reason = Contains (LogFull ∷ OutOfMemory ∷ []) reason
MayRefuseCall life event reason = reason ≡ reason_at life event

-- where an event may be refused, and why
abbrev pub MayRefuse : Course → Event → Refusal → Type 0
MayRefuse c Event.Begin reason = Contains (TooManyOpen ∷ IdsSpent ∷ OutOfMemory ∷ []) reason
MayRefuse c (Event.Call tx op) reason = MayRefuseCall (c.life tx) (Event.Call tx op) reason
MayRefuse c (Event.Step tx) reason = (IsBusy (c.life tx) → ⊥) × (reason ≡ reason_at (c.life tx) (Event.Step tx))
MayRefuse c (Event.Cancel tx) reason = ((op : ObjOp) → c.life tx ≢ Pending op) × (reason ≡ reason_at (c.life tx) (Event.Cancel tx))
MayRefuse c (Event.Commit tx) reason = (c.life tx ≢ Idle) × (reason ≡ reason_at (c.life tx) (Event.Commit tx))
MayRefuse c (Event.Abort tx) reason = (c.life tx ≢ Idle) × (reason ≡ reason_at (c.life tx) (Event.Abort tx))
MayRefuse c (Event.Whole tx op) reason = MayRefuseCall (c.life tx) (Event.Whole tx op) reason
MayRefuse c (Event.WholeUndo tx) reason = (c.life tx ≢ Undoing) × (reason ≡ reason_at (c.life tx) (Event.WholeUndo tx))

-- what an event that was told this makes of the course
abbrev pub Tells : Course → Event → Told → Course → Type 0
Tells c Event.Begin (Begun tx) d = (tx ≡ c.begun + 1) × Turns (record c { begun = tx }) tx NotOpen Idle [] d
Tells c (Event.Call tx op) Called d = Turns c tx Idle (Pending op) (c.ops tx) d
Tells c (Event.Step tx) (Answered Going) d = IsBusy (c.life tx) × (d ≡ c)
Tells c (Event.Step tx) (Answered (Waiting page by)) d = IsBusy (c.life tx) × (d ≡ c)
Tells c (Event.Step tx) (Answered (Blocked by)) d = (op : ObjOp) × (c.life tx ≡ Pending op) × (d ≡ c)
Tells c (Event.Step tx) (Answered (Done reply)) d =
    (op : ObjOp) × Turns c tx (Pending op) Idle (c.ops tx ++ (op, reply) ∷ []) d
Tells c (Event.Step tx) (Answered (Refused reason)) d =
    Contains (NoRoom ∷ OutOfMemory ∷ []) reason × ((op : ObjOp) × Turns c tx (Pending op) Idle (c.ops tx) d)
Tells c (Event.Step tx) (Answered Undone) d =
    (left : Ops) × (last : ObjOp × ObjReply) × (c.ops tx ≡ left ++ last ∷ []) × (left ≢ []) × Turns c tx Undoing Undoing left d
Tells c (Event.Step tx) (Answered Aborted) d =
    (last : ObjOp × ObjReply) × (c.ops tx ≡ last ∷ []) × Turns c tx Undoing NotOpen [] d
Tells c (Event.Cancel tx) Cancelled d = (op : ObjOp) × Turns c tx (Pending op) Idle (c.ops tx) d
Tells c (Event.Commit tx) (Committed number) d = (number ≡ length c.committed + 1)
    × Turns (record c { committed = c.committed ++ c.ops tx ∷ [] }) tx Idle NotOpen [] d
Tells c (Event.Abort tx) (Aborting true) d = (c.ops tx ≡ []) × Turns c tx Idle NotOpen [] d
Tells c (Event.Abort tx) (Aborting false) d = (c.ops tx ≢ []) × Turns c tx Idle Undoing (c.ops tx) d
Tells c (Event.Whole tx op) (Answered (Done reply)) d = Turns c tx Idle Idle (c.ops tx ++ (op, reply) ∷ []) d
Tells c (Event.Whole tx op) (Answered (Waiting page by)) d = (c.life tx ≡ Idle) × (d ≡ c)
Tells c (Event.Whole tx op) (Answered (Blocked by)) d = (c.life tx ≡ Idle) × (d ≡ c)
Tells c (Event.Whole tx op) (Answered (Refused reason)) d =
    Contains (NoRoom ∷ OutOfMemory ∷ []) reason × (c.life tx ≡ Idle) × (d ≡ c)
Tells c (Event.WholeUndo tx) (Answered (Waiting page by)) d =
    (left : Ops) × (back : Ops) × (c.ops tx ≡ left ++ back) × (left ≢ []) × Turns c tx Undoing Undoing left d
Tells c (Event.WholeUndo tx) (Answered Aborted) d = Turns c tx Undoing NotOpen [] d
Tells c event (Refused reason) d = MayRefuse c event reason × (d ≡ c)
Tells c event other d = ⊥

-- what an event that was told this adds to the history
abbrev pub AddsItems : Course → Event → Told → Course → List TraceItem → Type 0
AddsItems c Event.Begin (Begun tx) d items = items ≡ TraceItem.Begin tx ∷ []
AddsItems c (Event.Step tx) (Answered (Done reply)) d items =
    (op : ObjOp) × (c.life tx ≡ Pending op) × (items ≡ TraceItem.Op tx (op, reply) ∷ [])
AddsItems c (Event.Step tx) (Answered Undone) d items = items ≡ TraceItem.Back tx ∷ []
AddsItems c (Event.Step tx) (Answered Aborted) d items = items ≡ TraceItem.Back tx ∷ TraceItem.Abort tx ∷ []
AddsItems c (Event.Commit tx) (Committed number) d items = items ≡ TraceItem.Commit tx number ∷ []
AddsItems c (Event.Abort tx) (Aborting true) d items = items ≡ TraceItem.Abort tx ∷ []
AddsItems c (Event.Whole tx op) (Answered (Done reply)) d items = items ≡ TraceItem.Op tx (op, reply) ∷ []
AddsItems c (Event.WholeUndo tx) (Answered (Waiting page by)) d items =
    items ≡ replicate (length (c.ops tx) - length (d.ops tx)) (TraceItem.Back tx)
AddsItems c (Event.WholeUndo tx) (Answered Aborted) d items =
    items ≡ replicate (length (c.ops tx)) (TraceItem.Back tx) ++ TraceItem.Abort tx ∷ []
AddsItems c event told d items = items ≡ []

-- the history has these items before the event, and those after it
abbrev pub HasAdded : Course → Event → Told → Course → List TraceItem → List TraceItem → Type 0
HasAdded c event told d before after = (here : List TraceItem) × (after ≡ before ++ here) × AddsItems c event told d here

-- ## The course of a manager

-- the operation that a request does, or whose inverse it does
abbrev pub asked_op : Request → ObjOp
asked_op (Do op) = op
asked_op (TakeBack item) = item.0

-- what an open transaction is at, and which operations of it stand
abbrev pub life_at : At → Life
life_at At.Idle = Idle
life_at (At.Pending o) = Pending (asked_op o.request)
life_at (At.Undoing inverting) = Undoing

abbrev pub life_in : Option Transaction → Life
life_in None = NotOpen
life_in (Some t) = life_at t.at

abbrev pub ops_in : Option Transaction → Ops
ops_in None = []
ops_in (Some t) = t.undo.entries

-- what the history says that each did which committed
abbrev pub committed_by : List TraceItem → List Ops
committed_by items = (lists_of (entries_of items)).committed

-- the course that a manager has come
abbrev pub course_of : {P : Type 0} → ManagerFields P → Course
course_of m = record {
  begun = m.begun;
  committed = committed_by m.shared.history.items;
  life = λ tx. life_in (map.get m.txs tx);
  ops = λ tx. ops_in (map.get m.txs tx);
}

-- what committed leads, in the order of the commits, to `base`; from there what open ones did leads, in every order, to `state`
pub record IsSerializable (c : Course) : Type 0 where
  pub base : Base
  pub alone : IsSerialBase Does empty_base c.committed base
  pub state : Base
  pub taken_back : UndoneTo Does base c.ops state

-- the same of a list of events
abbrev pub TellsAll : Course → List Event → List Told → Course → List TraceItem → Type 0
TellsAll c [] [] d items = (d ≡ c) × (items ≡ [])
TellsAll c (event ∷ events) (told ∷ tolds) d items =
    (next : Course) × Tells c event told next × (here : List TraceItem) × AddsItems c event told next here
    × (later : List TraceItem) × (items ≡ here ++ later) × TellsAll next events tolds d later
TellsAll c events tolds d items = ⊥

-- the pages, with first images put back, mean the `state` to which the course leads
pub record KeepsPromiseOver {P : Type 0} (c : Course) (m : ManagerFields P) : Type 0 where
  pub serial : IsSerializable c
  pub clean : map.FinMap nat_cmp Page
  pub put_back : HasCleanPages m clean
  pub busy : (page : ℕ) (first : Option Page) (image : KeepsImage m.txs page first) → IsBusy (c.life image.tx)
  pub means : PagesMean clean serial.state
