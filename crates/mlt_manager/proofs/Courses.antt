-- What events tell of the course of transactions is what the manager's tables and history say
use Rattle.std.proofs.Common.{◌≡◌, ◌≢◌, ℕ, ◌+◌, List, [], ◌∷◌, ◌++◌, length, true, false, Option, None, Some, Contains, is_some, unwrap_or, Ok, Err, refl, sym, ap, subst, ◌∙◌, append_assoc, append-nil, length-append, arith, nat_cmp}
use Rattle.std.specs.FinMap as map
use Rattle.std.specs.FinSet as set
use Rattle.mlt_manager.proofs.Names.{not_true, false≢true, Limits, Refusal, ObjOp, ObjReply, Step, TraceItem, entries_of, Request, OperationFields, WalkContext, context_by, LocalState, local, Answer, Event, Told, SharedState, At, Transaction, TellsAt, Table, IsPending, IsUndoing, KeepsImage, image_of, Page, inserted_here, inserted_elsewhere, removed_here, FitsAt, State, images_kept, state_of, HasCalled, HasEnded, HasStepped, IsOpenAt, txs_after, counted, ChangesOpen, LeavesBase, StepsBy, StepsUpTo, DropsIfItStands, HasRun, LetsGoOn, Stops, GoesOnBack, StopsBack, IsManager, ManagerFields, Meets, lists_by}
use Rattle.mlt_order.specs.Histories.{Lists, after_entries, after_entry, lists_of, no_lists}
use Rattle.mlt_order.{specs.Tables.table_with, proofs.Tables.at_each, proofs.Tables.with_entry-other, proofs.Tables.with_entry-same}
use Rattle.mlt_trace.{proofs.ItemLaws.transcripts_counted, specs.Entries.entry_of}
use Rattle.mlt_trace_check.proofs.Histories.{nothing_of_others}
use Rattle.mlt_tx.specs.{OpenAt.IsNotIdle, Tables.CallsNone, Tables.CancelsOne}
use Rattle.mlt_hash.specs.Walks.{WalkFields, context_after, one_key}
use Rattle.mlt_tx_operation.specs.{Answers.CauseAtOne, Answers.CauseBy, declared.access_path.AccessPath.AccessPath, declared.access_path.AccessPath.TheVariants.One, declared.access_path.AccessPath.TheVariants.Two}
use Rattle.mlt_tx_two_records.specs.{WidePass.CauseAtOwn, WidePass.CauseAtSize, declared.two_records.TwoRecordWalk.TheVariants.First, declared.two_records.TwoRecordWalk.TheVariants.Owing, declared.two_records.TwoRecordWalk.TheVariants.Wide, declared.two_records.WideStage.WideStage}
use Rattle.mlt_types.specs.declared.refusal.Refusal.TheVariants.{IdsSpent, LogFull, NoRoom, OutOfMemory, TooManyOpen}
use Rattle.mlt_manager_invariant.proofs.Tables.{removed_elsewhere}
use Rattle.mlt_manager.specs.Answers.{HasBegun, HasBegunAbort, HasClosed, HasCommitted, IsCauseAtBegin, IsCauseAtCallOf, MayCallOne, IsCauseAtCancel, IsCauseAtStep, IsIdle}
use Rattle.mlt_manager.specs.Courses.{Course, IsBusy, AddsItems, HasAdded, Life, Ops, Tells, TellsAll, Turns, MayRefuseCall, asked_op, committed_by, course_of, life_at, life_in, ops_in, opening_course, reason_at}
use Rattle.mlt_manager.{specs.Openings.IsNew, specs.Undoings.IsCauseAtUndo, specs.Undoings.IsNotUndoing, proofs.Chains.steps_keep, proofs.Called.one_there, proofs.Called.pending_of, proofs.Called.was_idle, proofs.Called.was_with, proofs.Stepped.step_keeps, proofs.UndoingAll.undoing_of_at, proofs.WholeBases.same_request}
use Rattle.mlt_manager.proofs.Kept.{abort_kept, begin_kept, call_kept, cancel_kept, commit_kept, step_kept, whole_kept, whole_undo_kept}

-- ## Tables

-- tables with the same entries are one
pub alike : {X : Type 0} (f g : ℕ → X) → ((j : ℕ) → f j ≡ g j) → f ≡ g
alike f g same i j = same j i

module _ {X : Type 0} (f : ℕ → X) (tx : ℕ) where
  twice : (a b : X) → table_with (table_with f tx a) tx b ≡ table_with f tx b
  twice a b = alike _ _ (at_each tx (λ j. table_with (table_with f tx a) tx b j ≡ table_with f tx b j)
      (with_entry-same (table_with f tx a) tx tx b refl ∙ sym (with_entry-same f tx tx b refl))
      (λ j ne. with_entry-other (table_with f tx a) tx j b ne ∙ with_entry-other f tx j a ne ∙ sym (with_entry-other f tx j b ne)))

  as_was : (a : X) → f tx ≡ a → table_with f tx a ≡ f
  as_was a is = alike _ _ (at_each tx (λ j. table_with f tx a j ≡ f j) (with_entry-same f tx tx a refl ∙ sym is) (λ j ne. with_entry-other f tx j a ne))

-- ## Courses

module _ (c : Course) (tx : ℕ) where
  abbrev with_life : Life → Ops → Course
  with_life life ops = record c { life = table_with c.life tx life; ops = table_with c.ops tx ops }

  -- one turn after another is one
  then_turns : (from mid mid' to : Life) (ops ops' : Ops) (m d : Course) → Turns c tx from mid ops m → Turns m tx mid' to ops' d → (mid ≡ mid') × (m.ops tx ≡ ops) × Turns c tx from to ops' d
  then_turns from mid mid' to ops ops' m d (was, is) (was', is') = (
    sym (with_entry-same c.life tx tx mid refl) ∙ sym (ap (λ (k : Course). k.life tx) is) ∙ was',
    ap (λ (k : Course). k.ops tx) is ∙ with_entry-same c.ops tx tx ops refl,
    (
      was,
      is' ∙ (λ i. record (is i) { life = table_with (is i).life tx to; ops = table_with (is i).ops tx ops' })
          ∙ (λ i. record c { life = twice c.life tx mid to i; ops = twice c.ops tx ops ops' i }),
    ),
  )

  -- a turn to the same is none
  turns_to_same : (life : Life) (ops : Ops) (d : Course) → c.ops tx ≡ ops → Turns c tx life life ops d → d ≡ c
  turns_to_same life ops d same (was, is) = is ∙ (λ i. record c { life = as_was c.life tx life was i; ops = as_was c.ops tx ops same i })

  none_turns : (life : Life) (d : Course) → c.life tx ≡ life → d ≡ c → Turns c tx life life (c.ops tx) d
  none_turns life d was is = (was, is ∙ (λ i. record c { life = sym (as_was c.life tx life was) i; ops = sym (as_was c.ops tx (c.ops tx) refl) i }))

  -- the same turn, in other words
  turns_as : (from from' to to' : Life) (ops ops' : Ops) (d : Course) → from ≡ from' → to ≡ to' → ops ≡ ops' → Turns c tx from to ops d → Turns c tx from' to' ops' d
  turns_as from from' to to' ops ops' d was is stand (there, turns) = (there ∙ was, turns ∙ (λ i. with_life (is i) (stand i)))

-- ## The course of a manager

-- what is committed after more items
pub lists_on : (items here : List TraceItem) (lists : Lists (ObjOp × ObjReply)) → after_entries lists (entries_of (items ++ here)) ≡ after_entries (after_entries lists (entries_of items)) (entries_of here)
lists_on [] here lists = refl
lists_on (item ∷ items) here lists = lists_on items here (after_entry lists (entry_of item))

-- ## One transaction changes

-- what is read of each number in a table, where one has changed
module _ {X : Type 0} (F : Option Transaction → X) where
  abbrev read : Table → ℕ → X
  read txs j = F (map.get txs j)

  read_inserted : (txs txs' : Table) (tx : ℕ) (after : Transaction) → txs' ≡ map.insert txs tx after → read txs' ≡ table_with (read txs) tx (F (Some after))
  read_inserted txs txs' tx after is = ap read is ∙ alike _ _ (at_each tx (λ j. read (map.insert txs tx after) j ≡ table_with (read txs) tx (F (Some after)) j)
      (ap F (inserted_here txs tx after) ∙ sym (with_entry-same (read txs) tx tx (F (Some after)) refl))
      (λ j ne. ap F (inserted_elsewhere txs tx after j ne) ∙ sym (with_entry-other (read txs) tx j (F (Some after)) ne)))

  read_removed : (txs txs' : Table) (tx : ℕ) → txs' ≡ map.remove txs tx → read txs' ≡ table_with (read txs) tx (F None)
  read_removed txs txs' tx is = ap read is ∙ alike _ _ (at_each tx (λ j. read (map.remove txs tx) j ≡ table_with (read txs) tx (F None) j)
      (ap F (removed_here txs tx) ∙ sym (with_entry-same (read txs) tx tx (F None) refl))
      (λ j ne. ap F (removed_elsewhere txs tx j ne) ∙ sym (with_entry-other (read txs) tx j (F None) ne)))

-- one number has this entry now, and every other one what it had
abbrev HasEntry : Table → Table → ℕ → Option Transaction → Type 0
HasEntry txs txs' tx entry = (read life_in txs' ≡ table_with (read life_in txs) tx (life_in entry)) × (read ops_in txs' ≡ table_with (read ops_in txs) tx (ops_in entry))

inserted : (txs txs' : Table) (tx : ℕ) (after : Transaction) → txs' ≡ map.insert txs tx after → HasEntry txs txs' tx (Some after)
inserted txs txs' tx after is = (read_inserted life_in txs txs' tx after is, read_inserted ops_in txs txs' tx after is)

removed : (txs txs' : Table) (tx : ℕ) → txs' ≡ map.remove txs tx → HasEntry txs txs' tx None
removed txs txs' tx is = (read_removed life_in txs txs' tx is, read_removed ops_in txs txs' tx is)

-- who is told Aborted is open no more
abbrev entry_after : Answer → Transaction → Option Transaction
entry_after Answer.Aborted t = None
entry_after other t = Some t

stepped : (told : Answer) (txs txs' : Table) (tx : ℕ) (after : Transaction) → txs' ≡ map.insert txs tx after → HasEntry txs (txs_after told tx txs') tx (entry_after told after)
stepped Answer.Aborted txs txs' tx after is = (
  read_removed life_in txs' (map.remove txs' tx) tx refl ∙ ap (λ f. table_with f tx Life.NotOpen) (read_inserted life_in txs txs' tx after is) ∙ twice (read life_in txs) tx (life_at after.at) Life.NotOpen,
  read_removed ops_in txs' (map.remove txs' tx) tx refl ∙ ap (λ f. table_with f tx []) (read_inserted ops_in txs txs' tx after is) ∙ twice (read ops_in txs) tx after.undo.entries [],
)
stepped other txs txs' tx after is = inserted txs txs' tx after is

module _ {P : Type 0} (m m' : ManagerFields P) (tx : ℕ) where
  abbrev SameCommitted : Type 0
  SameCommitted = committed_by m'.shared.history.items ≡ committed_by m.shared.history.items

  -- one transaction goes on, or ends
  turned : (was entry : Option Transaction) → map.get m.txs tx ≡ was → HasEntry m.txs m'.txs tx entry → m'.begun ≡ m.begun → SameCommitted → Turns (course_of m) tx (life_in was) (life_in entry) (ops_in entry) (course_of m')
  turned was entry there has begun committed = (ap life_in there, (λ i. record { begun = begun i; committed = committed i; life = has.0 i; ops = has.1 i }))

  same_items : m'.shared.history.items ≡ m.shared.history.items → SameCommitted
  same_items same = ap committed_by same

  more_committed : (here : List TraceItem) → m'.shared.history.items ≡ m.shared.history.items ++ here → ((lists : Lists (ObjOp × ObjReply)) → (after_entries lists (entries_of here)).committed ≡ lists.committed) → SameCommitted
  more_committed here is none = ap committed_by is ∙ ap (λ (l : Lists (ObjOp × ObjReply)). l.committed) (lists_on m.shared.history.items here no_lists) ∙ none (lists_of (entries_of m.shared.history.items))

  step_committed : (told : Answer) → LeavesBase told m m' tx → SameCommitted
  step_committed (Answer.Done reply) (op, makes) = more_committed (TraceItem.Op tx (op, reply) ∷ []) makes.adds.items (λ lists. refl)
  step_committed (Answer.Blocked by) (keeps, found) = same_items keeps.items
  step_committed Answer.Undone takes = more_committed (TraceItem.Back tx ∷ []) takes.2.items (λ lists. refl)
  step_committed Answer.Aborted takes = more_committed (TraceItem.Back tx ∷ TraceItem.Abort tx ∷ []) takes.1.items (λ lists. refl)
  step_committed other keeps = same_items keeps.items

-- ## Steps

-- busy is who has something pending, or an abort
busy_by : (a : At) (life : Life) → life ≡ life_at a → (a ≡ At.Idle → ⊥) → IsBusy life
busy_by At.Idle life was not = absurd (not refl)
busy_by (At.Pending o) life was not = (
  (λ is. let both : Life.Pending (asked_op o.request) ≡ Life.NotOpen = sym was ∙ is in absurd cc),
  (λ is. let both : Life.Pending (asked_op o.request) ≡ Life.Idle = sym was ∙ is in absurd cc),
)
busy_by (At.Undoing inverting) life was not = (
  (λ is. let both : Life.Undoing ≡ Life.NotOpen = sym was ∙ is in absurd cc),
  (λ is. let both : Life.Undoing ≡ Life.Idle = sym was ∙ is in absurd cc),
)

-- why an operation is refused: there is no room, or no memory
abbrev IsForRoom : Refusal → Type 0
IsForRoom reason = Contains (NoRoom ∷ OutOfMemory ∷ []) reason

refused_on_one : (reason : Refusal) (context : WalkContext) (old mid : LocalState) (request : Request) (walk : WalkFields) → CauseAtOne reason context old mid request walk → IsForRoom reason
refused_on_one Refusal.NoRoom context old mid request walk cause = (0, omega arith, refl)
refused_on_one Refusal.OutOfMemory context old mid request walk cause = (1, omega arith, refl)
refused_on_one other context old mid request walk none = absurd none

refused_on_own : (reason : Refusal) (context : WalkContext) (old mid : LocalState) (walk : WalkFields) → CauseAtOwn reason context old mid walk → IsForRoom reason
refused_on_own Refusal.NoRoom context old mid walk cause = (0, omega arith, refl)
refused_on_own Refusal.OutOfMemory context old mid walk cause = (1, omega arith, refl)
refused_on_own other context old mid walk none = absurd none

refused_on_size : (reason : Refusal) (context : WalkContext) (old mid : LocalState) (walk : WalkFields) → CauseAtSize reason context old mid walk → IsForRoom reason
refused_on_size Refusal.NoRoom context old mid walk cause = (0, omega arith, refl)
refused_on_size Refusal.OutOfMemory context old mid walk cause = (1, omega arith, refl)
refused_on_size other context old mid walk none = absurd none

refused_for : (reason : Refusal) (context : WalkContext) (old mid : LocalState) (path : AccessPath) (request : Request) → CauseBy path reason context old mid request → IsForRoom reason
refused_for reason context old mid (One walk) request cause = refused_on_one reason context old mid request walk cause
refused_for reason context old mid (Two (First pair)) request none = absurd none
refused_for reason context old mid (Two (Owing pair reply)) request none = absurd none
refused_for reason context old mid (Two (Wide WideStage.Own walk)) request cause = refused_on_own reason (one_key context) old mid walk cause
refused_for reason context old mid (Two (Wide WideStage.Size walk)) request (since, put, cause) = refused_on_size reason (context_after since context) old mid walk cause

-- what a step makes of the course, by what the transaction was at
module _ (c d : Course) (tx : ℕ) (context : WalkContext) (before after : Transaction) (old new : SharedState) (stood : c.ops tx ≡ before.undo.entries) where
  abbrev StepTurns : Answer → At → Type 0
  StepTurns told a = Turns c tx (life_at a) (life_in (entry_after told after)) (ops_in (entry_after told after)) d

  stays_at : (a : At) → life_at after.at ≡ life_at a → after.undo.entries ≡ before.undo.entries → Turns c tx (life_at a) (life_at after.at) after.undo.entries d → d ≡ c
  stays_at a is stand turns = turns_to_same c tx (life_at a) before.undo.entries d stood (turns_as c tx (life_at a) (life_at a) (life_at after.at) (life_at a) after.undo.entries before.undo.entries d refl is stand turns)

  step_row : (a : At) (told : Answer) → TellsAt a context before after old new told → StepTurns told a → Tells c (Event.Step tx) (Told.Answered told) d
  step_row At.Idle told none turns = absurd none
  step_row (At.Pending o) Answer.Going s turns =
      let on = same_request context (local before.subtx old.pages) (local after.subtx s.between.pages) o s.next s.tells.tells in
      let busy = busy_by (At.Pending o) (c.life tx) turns.0 (λ is. absurd cc) in
      (busy, stays_at (At.Pending o) (ap life_at s.now_at ∙ ap (λ (r : Request). Life.Pending (asked_op r)) on) (λ i. (s.tells.rest.undo_kept i).entries) turns)
  step_row (At.Pending o) (Answer.Waiting page by) s turns =
      let busy = busy_by (At.Pending o) (c.life tx) turns.0 (λ is. absurd cc) in
      (busy, stays_at (At.Pending o) (ap life_at s.now_at ∙ ap (λ (n : OperationFields). Life.Pending (asked_op n.request)) s.tells.tells.stays) (λ i. (s.tells.rest.undo_kept i).entries) turns)
  step_row (At.Pending o) (Answer.Blocked by) s turns =
      (asked_op o.request, turns.0, stays_at (At.Pending o) (ap life_at s.now_at ∙ ap (λ (n : OperationFields). Life.Pending (asked_op n.request)) s.tells.1) (λ i. (s.tells.0.tells.kept i).entries) turns)
  step_row (At.Pending o) (Answer.Done reply) s turns =
      let done = s.tells.tells in (
        s.tells.op,
        turns_as c tx (life_at (At.Pending o)) (Life.Pending s.tells.op) (life_at after.at) Life.Idle after.undo.entries (c.ops tx ++ (s.tells.op, reply) ∷ []) d
            (ap (λ (r : Request). Life.Pending (asked_op r)) s.tells.asked) (ap life_at s.now_at)
            (done.1.entries ∙ (λ i. before.undo.entries ++ (s.tells.op, sym done.0 i) ∷ []) ∙ ap (λ (l : Ops). l ++ (s.tells.op, reply) ∷ []) (sym stood)) turns,
      )
  step_row (At.Pending o) (Answer.Refused reason) s turns = (
    refused_for reason context (local before.subtx old.pages) s.tells.tells.back.mid o.access_path o.request s.tells.tells.cause,
    (
      asked_op o.request,
      turns_as c tx (life_at (At.Pending o)) (Life.Pending (asked_op o.request)) (life_at after.at) Life.Idle after.undo.entries (c.ops tx) d
          refl (ap life_at s.now_at) ((λ i. (s.tells.rest.undo_kept i).entries) ∙ sym stood) turns,
    ),
  )
  step_row (At.Pending o) Answer.Undone s turns = absurd s.tells
  step_row (At.Pending o) Answer.Aborted s turns = absurd s.tells
  step_row (At.Undoing inverting) Answer.Going s turns =
      let busy = busy_by (At.Undoing inverting) (c.life tx) turns.0 (λ is. absurd cc) in
      (busy, stays_at (At.Undoing inverting) (ap life_at s.now_at) (λ i. (s.tells.rest.undo_kept i).entries) turns)
  step_row (At.Undoing inverting) (Answer.Waiting page by) s turns =
      let busy = busy_by (At.Undoing inverting) (c.life tx) turns.0 (λ is. absurd cc) in
      (busy, stays_at (At.Undoing inverting) (ap life_at s.now_at) (λ i. (s.tells.rest.undo_kept i).entries) turns)
  step_row (At.Undoing inverting) Answer.Undone s turns =
      let takes = s.tells.takes in
      (after.undo.entries, takes.off.last, stood ∙ takes.off.entries, takes.left, turns_as c tx Life.Undoing Life.Undoing (life_at after.at) Life.Undoing after.undo.entries after.undo.entries d refl (ap life_at s.now_at) refl turns)
  step_row (At.Undoing inverting) Answer.Aborted s turns =
      let takes = s.tells.takes in
      (takes.off.last, stood ∙ takes.off.entries ∙ ap (λ (l : Ops). l ++ takes.off.last ∷ []) takes.none, turns)
  step_row (At.Undoing inverting) (Answer.Blocked by) s turns = absurd s.tells
  step_row (At.Undoing inverting) (Answer.Done reply) s turns = absurd s.tells
  step_row (At.Undoing inverting) (Answer.Refused reason) s turns = absurd s.tells

module _ {P : Type 0} (bits_of : P → ℕ → ℕ) (tx : ℕ) where
  -- **What a step makes of the course.**
  step_course : (m m' : ManagerFields P) (told : Answer) → HasStepped bits_of m m' tx told → LeavesBase told m m' tx → Tells (course_of m) (Event.Step tx) (Told.Answered told) (course_of m')
  step_course m m' told d leaves =
      let ch = d.steps.changes in
      let has : HasEntry m.txs m'.txs tx (entry_after told ch.after) = subst (λ (t : Table). HasEntry m.txs t tx (entry_after told ch.after)) (sym (ap (λ (n : ManagerFields P). n.txs) d.rest)) (stepped told m.txs d.txs tx ch.after ch.is) in
      step_row (course_of m) (course_of m') tx (context_by bits_of m.root m.active ch.before.subtx.tx) ch.before ch.after m.shared m'.shared (ap ops_in ch.was) ch.before.at told d.steps.tells
      (turned m m' tx (Some ch.before) (entry_after told ch.after) ch.was has (ap (λ (n : ManagerFields P). n.begun) d.rest) (step_committed m m' tx told leaves))

  step_told : (m m' : ManagerFields P) (told : Answer) → IsManager bits_of m → HasStepped bits_of m m' tx told → Tells (course_of m) (Event.Step tx) (Told.Answered told) (course_of m')
  step_told m m' told h d = step_course m m' told d (step_keeps bits_of m h tx m' told d).1

  -- ## Calls, cancels, and whole operations

  call_course : (m m' : ManagerFields P) (op : ObjOp) → HasCalled m m' tx op → Turns (course_of m) tx Life.Idle (Life.Pending op) ((course_of m).ops tx) (course_of m')
  call_course m m' op c =
      let ch = c.calls.changes in
      let makes = c.calls.tells.makes in
      turns_as (course_of m) tx (life_at ch.before.at) Life.Idle (life_at ch.after.at) (Life.Pending op) ch.after.undo.entries ((course_of m).ops tx) (course_of m')
      (ap life_at (was_idle m.txs tx c.may.0 ch.before c.may.1 ch.was)) (ap life_at c.calls.tells.pending) (makes.entries ∙ sym (ap ops_in ch.was))
      (turned m m' tx (Some ch.before) (Some ch.after) ch.was (inserted m.txs m'.txs tx ch.after ch.is) (ap (λ (n : ManagerFields P). n.begun) c.rest) (same_items m m' tx makes.items))

  cancel_course : (m m' : ManagerFields P) → IsOpenAt m.txs tx IsPending → CancelsOne tx m.txs m'.txs m.shared m'.shared → ChangesOpen m m' → (op : ObjOp) × Turns (course_of m) tx (Life.Pending op) Life.Idle ((course_of m).ops tx) (course_of m')
  cancel_course m m' there c rest =
      let ch = c.changes in
      let o = pending_of there.one.at there.is_at in
      let was_at : ch.before.at ≡ At.Pending o.0 = ap (λ (t : Transaction). t.at) (one_there m.txs tx ch.before there.one ch.was there.there) ∙ o.1 in (
        asked_op o.0.request,
        turns_as (course_of m) tx (life_at ch.before.at) (life_at (At.Pending o.0)) (life_at ch.after.at) Life.Idle ch.after.undo.entries ((course_of m).ops tx) (course_of m')
            (ap life_at was_at) (ap life_at c.tells.idle) ((λ i. (c.tells.undo_kept i).entries) ∙ sym (ap ops_in ch.was))
            (turned m m' tx (Some ch.before) (Some ch.after) ch.was (inserted m.txs m'.txs tx ch.after ch.is) (ap (λ (n : ManagerFields P). n.begun) rest) (same_items m m' tx (c.tells.room.items ∙ (λ i. (c.tells.history i).items)))),
      )

  -- steps that go on leave the course
  on_course : (m last : ManagerFields P) (steps : List (ManagerFields P × Answer)) → IsManager bits_of m → StepsBy bits_of LetsGoOn m steps last tx → course_of last ≡ course_of m
  on_course m last [] h same = ap course_of same
  on_course m last ((next, Answer.Going) ∷ more) h (first, on, rest) =
      on_course next last more (step_keeps bits_of m h tx next Answer.Going first).0 rest ∙ (step_told m next Answer.Going h first).1
  on_course m last ((next, other) ∷ more) h (first, none, rest) = absurd none

  -- what is called and then dropped is as it was
  dropped : (c k d : Course) (op : ObjOp) → Turns c tx Life.Idle (Life.Pending op) (c.ops tx) k → (other : ObjOp) × Turns k tx (Life.Pending other) Life.Idle (k.ops tx) d → (c.life tx ≡ Life.Idle) × (d ≡ c)
  dropped c k d op calls (other, drops) =
      let both = then_turns c tx Life.Idle (Life.Pending op) (Life.Pending other) Life.Idle (c.ops tx) (k.ops tx) k d calls drops in
      (calls.0, turns_to_same c tx Life.Idle (k.ops tx) d (sym both.1) both.2)

  same_op : (op other : ObjOp) → Life.Pending op ≡ Life.Pending other → other ≡ op
  same_op op other same = cc

  whole_row : (told : Answer) (c k : Course) (stopped m' : ManagerFields P) (op : ObjOp) → Turns c tx Life.Idle (Life.Pending op) (c.ops tx) k → Tells k (Event.Step tx) (Told.Answered told) (course_of stopped) → Stops told → DropsIfItStands told stopped m' tx
      → Tells c (Event.Whole tx op) (Told.Answered told) (course_of m')
  whole_row (Answer.Done reply) c k stopped m' op calls (other, does) stops same =
      let both = then_turns c tx Life.Idle (Life.Pending op) (Life.Pending other) Life.Idle (c.ops tx) (k.ops tx ++ (other, reply) ∷ []) k (course_of stopped) calls does in
      subst (λ (n : ManagerFields P). Turns c tx Life.Idle Life.Idle (c.ops tx ++ (op, reply) ∷ []) (course_of n)) (sym same)
      (turns_as c tx Life.Idle Life.Idle Life.Idle Life.Idle (k.ops tx ++ (other, reply) ∷ []) (c.ops tx ++ (op, reply) ∷ []) (course_of stopped) refl refl (λ i. both.1 i ++ (same_op op other both.0 i, reply) ∷ []) both.2)
  whole_row (Answer.Waiting page by) c k stopped m' op calls row stops drops =
      dropped c (course_of stopped) (course_of m') op (subst (Turns c tx Life.Idle (Life.Pending op) (c.ops tx)) (sym row.1) calls) (cancel_course stopped m' drops.pending drops.cancels drops.rest)
  whole_row (Answer.Blocked by) c k stopped m' op calls row stops drops =
      dropped c (course_of stopped) (course_of m') op (subst (Turns c tx Life.Idle (Life.Pending op) (c.ops tx)) (sym row.2) calls) (cancel_course stopped m' drops.pending drops.cancels drops.rest)
  whole_row (Answer.Refused reason) c k stopped m' op calls row stops same =
      let same_there = subst (λ (n : ManagerFields P). (c.life tx ≡ Life.Idle) × (course_of n ≡ c)) (sym same) (dropped c k (course_of stopped) op calls row.1) in
      (row.0, same_there.0, same_there.1)
  whole_row Answer.Going c k stopped m' op calls row none same = absurd none
  whole_row Answer.Undone c k stopped m' op calls row none same = absurd none
  whole_row Answer.Aborted c k stopped m' op calls row none same = absurd none

  -- **What a whole operation makes of the course.**
  whole_course : (m m' : ManagerFields P) (op : ObjOp) (told : Answer) → IsManager bits_of m → HasRun bits_of m m' tx op told → Tells (course_of m) (Event.Whole tx op) (Told.Answered told) (course_of m')
  whole_course m m' op told h r =
      let up = r.runs.steps in
      let called = call_kept bits_of m r.called h tx op (Ok tt) r.calls in
      let same = on_course r.called up.before up.steps called up.goes in
      let row = step_told up.before r.runs.stopped told (steps_keep bits_of LetsGoOn tx r.called up.before up.steps called up.goes) up.ends in
      whole_row told (course_of m) (course_of r.called) r.runs.stopped m' op (call_course m r.called op r.calls)
      (subst (λ (c : Course). Tells c (Event.Step tx) (Told.Answered told) (course_of r.runs.stopped)) same row) up.stops r.runs.drops

  -- ## Whole undoings

  abbrev Unwinds : Course → Course → Type 0
  Unwinds c d = (left : Ops) × (back : Ops) × (c.ops tx ≡ left ++ back) × Turns c tx Life.Undoing Life.Undoing left d

  back_course : (m last : ManagerFields P) (steps : List (ManagerFields P × Answer)) → IsManager bits_of m → StepsBy bits_of GoesOnBack m steps last tx → (course_of m).life tx ≡ Life.Undoing → Unwinds (course_of m) (course_of last)
  back_course m last [] h same was = ((course_of m).ops tx, [], sym (append-nil ((course_of m).ops tx)), none_turns (course_of m) tx Life.Undoing (course_of last) was (ap course_of same))
  back_course m last ((next, Answer.Going) ∷ more) h (first, on, rest) was =
      let same = (step_told m next Answer.Going h first).1 in
      subst (λ (c : Course). Unwinds c (course_of last)) same (back_course next last more (step_keeps bits_of m h tx next Answer.Going first).0 rest ((λ i. (same i).life tx) ∙ was))
  back_course m last ((next, Answer.Undone) ∷ more) h (first, on, rest) was =
      let row = step_told m next Answer.Undone h first in
      let turns = row.4 in
      let later = back_course next last more (step_keeps bits_of m h tx next Answer.Undone first).0 rest ((λ i. (turns.1 i).life tx) ∙ with_entry-same (course_of m).life tx tx Life.Undoing refl) in
      let both = then_turns (course_of m) tx Life.Undoing Life.Undoing Life.Undoing Life.Undoing row.0 later.0 (course_of next) (course_of last) turns later.3 in (
        later.0,
        later.1 ++ row.1 ∷ [],
        row.2 ∙ ap (λ (l : Ops). l ++ row.1 ∷ []) (sym both.1 ∙ later.2) ∙ append_assoc later.0 later.1 (row.1 ∷ []),
        both.2,
      )
  back_course m last ((next, other) ∷ more) h (first, none, rest) was = absurd none

  -- who is being undone has something left
  left_at : (s : State) (t : Transaction) (a : At) → FitsAt a s tx t → life_at a ≡ Life.Undoing → t.undo.entries ≢ []
  left_at s t At.Idle fits is = absurd cc
  left_at s t (At.Pending o) fits is = absurd cc
  left_at s t (At.Undoing None) fits is = fits.1
  left_at s t (At.Undoing (Some o)) fits is = λ none.
      let both : length (fits.front ++ fits.last ∷ []) ≡ 0 = ap length (sym fits.entries ∙ none) in
      let more = length-append fits.front (fits.last ∷ []) in
      absurd (omega (arith, both, more))

  undoing_left : (m : ManagerFields P) → IsManager bits_of m → (o : Option Transaction) → map.get m.txs tx ≡ o → life_in o ≡ Life.Undoing → ops_in o ≢ []
  undoing_left m h None there is = absurd cc
  undoing_left m h (Some t) there is = left_at (state_of bits_of m h.images h.base) t t.at (h.sound.fits tx t there).where_at is

  -- **What a whole undoing makes of the course.**
  undo_course : (m m' : ManagerFields P) (told : Answer) → IsManager bits_of m → IsOpenAt m.txs tx IsUndoing → StepsUpTo bits_of GoesOnBack StopsBack m m' tx told → Tells (course_of m) (Event.WholeUndo tx) (Told.Answered told) (course_of m')
  undo_course m m' told h there s = by_told told (back_course m s.before s.steps h s.goes (ap life_in there.there ∙ ap life_at (undoing_of_at there.one.at there.is_at).1))
      (step_told s.before m' told (steps_keep bits_of GoesOnBack tx m s.before s.steps h s.goes) s.ends) s.stops
    where
      by_told : (t : Answer) → Unwinds (course_of m) (course_of s.before) → Tells (course_of s.before) (Event.Step tx) (Told.Answered t) (course_of m') → StopsBack t → Tells (course_of m) (Event.WholeUndo tx) (Told.Answered t) (course_of m')
      by_told Answer.Aborted (left, back, is, turns) (last, one, ends) stops = (then_turns (course_of m) tx Life.Undoing Life.Undoing Life.Undoing Life.NotOpen left [] (course_of s.before) (course_of m') turns ends).2
      by_told (Answer.Waiting page by) (left, back, is, turns) row stops = (
        left,
        back,
        is,
        (λ none. undoing_left s.before (steps_keep bits_of GoesOnBack tx m s.before s.steps h s.goes) (map.get s.before.txs tx) refl
            ((λ i. (turns.1 i).life tx) ∙ with_entry-same (course_of m).life tx tx Life.Undoing refl)
            ((λ i. (turns.1 i).ops tx) ∙ with_entry-same (course_of m).ops tx tx left refl ∙ none)),
        subst (Turns (course_of m) tx Life.Undoing Life.Undoing left) (sym row.1) turns,
      )
      by_told other u row none = absurd none

-- ## Begins and ends

none_in : (o : Option Transaction) → is_some o ≡ false → life_in o ≡ Life.NotOpen
none_in None none = refl
none_in (Some t) none = absurd cc

no_ops : (ops : Ops) → length ops ≡ 0 → ops ≡ []
no_ops [] is = refl
no_ops (x ∷ xs) is = absurd cc

module _ {P : Type 0} (bits_of : P → ℕ → ℕ) (m m' : ManagerFields P) (h : IsManager bits_of m) (tx : ℕ) where
  begin_course : HasBegun m m' tx → Tells (course_of m) Event.Begin (Told.Begun tx) (course_of m')
  begin_course b =
      let not_open : set.contains m.active tx ≡ false = not_true (set.contains m.active tx) (λ is. let low = h.sound.match.file.ghosts.opened tx is in let next = b.number in absurd (omega (arith, low, next))) in
      let has = inserted m.txs m'.txs tx b.one (ap (λ (n : ManagerFields P). n.txs) b.rest) in (
        b.number,
        (
          none_in (map.get m.txs tx) (sym (h.sound.opened tx) ∙ not_open),
          (λ i. record {
            begun = (b.rest i).begun;
            committed = more_committed m m' tx (TraceItem.Begin tx ∷ []) b.items (λ lists. refl) i;
            life = (has.0 ∙ ap (λ a. table_with (read life_in m.txs) tx (life_at a)) b.idle) i;
            ops = (has.1 ∙ ap (table_with (read ops_in m.txs) tx) b.entries) i;
          }),
        ),
      )

  ended_turns : (item : TraceItem) (committed : List Ops) → m'.begun ≡ m.begun → (e : HasEnded m m' tx item) → committed_by m'.shared.history.items ≡ committed → Turns (record (course_of m) { committed = committed }) tx Life.Idle Life.NotOpen [] (course_of m')
  ended_turns item committed begun e is =
      let has = removed m.txs m'.txs tx e.txs in
      (ap life_in e.there ∙ ap life_at e.idle, (λ i. record { begun = begun i; committed = is i; life = has.0 i; ops = has.1 i }))

  commit_course : (number : ℕ) → HasCommitted m m' tx number → Tells (course_of m) (Event.Commit tx) (Told.Committed number) (course_of m')
  commit_course number c =
      let e = c.ends in
      let items = m.shared.history.items in
      let stands : (lists_of (entries_of items)).transcripts tx ≡ (course_of m).ops tx = sym (h.sound.fits tx e.one e.there).stands ∙ sym (ap ops_in e.there) in (
        c.next ∙ ap (λ n. n + 1) (h.limits.counted ∙ sym (transcripts_counted items)),
        ended_turns (TraceItem.Commit tx number) (committed_by items ++ (course_of m).ops tx ∷ []) (ap (λ (n : ManagerFields P). n.begun) c.rest) e
            (ap committed_by e.items ∙ ap (λ (l : Lists (ObjOp × ObjReply)). l.committed) (lists_on items (TraceItem.Commit tx number ∷ []) no_lists) ∙ ap (λ (l : Ops). committed_by items ++ l ∷ []) stands),
      )

  close_course : HasClosed m m' tx → Tells (course_of m) (Event.Abort tx) (Told.Aborting true) (course_of m')
  close_course c =
      let e = c.ends in (
        ap ops_in e.there ∙ no_ops e.one.undo.entries (was_with m.txs tx 0 e.one c.nothing e.there),
        ended_turns (TraceItem.Abort tx) (committed_by m.shared.history.items) (ap (λ (n : ManagerFields P). n.begun) c.rest) e (more_committed m m' tx (TraceItem.Abort tx ∷ []) e.items (λ lists. refl)),
      )

  abort_course : HasBegunAbort m m' tx → Tells (course_of m) (Event.Abort tx) (Told.Aborting false) (course_of m')
  abort_course a =
      let ch = a.puts.changes in
      let count = was_with m.txs tx a.count ch.before a.idle ch.was in
      let same = ap ops_in ch.was in (
        (λ none. let zero_of : length ch.before.undo.entries ≡ 0 = ap length (sym same ∙ none) in let some = a.some in absurd (omega (arith, count, zero_of, some))),
        turns_as (course_of m) tx (life_at ch.before.at) Life.Idle (life_at ch.after.at) Life.Undoing ch.after.undo.entries ((course_of m).ops tx) (course_of m')
            (ap life_at (was_idle m.txs tx a.count ch.before a.idle ch.was)) (ap (λ (t : Transaction). life_at t.at) a.puts.put) (ap (λ (t : Transaction). t.undo.entries) a.puts.put ∙ sym same)
            (turned m m' tx (Some ch.before) (Some ch.after) ch.was (inserted m.txs m'.txs tx ch.after ch.is) (ap (λ (n : ManagerFields P). n.begun) a.rest) (ap (λ (n : ManagerFields P). committed_by n.shared.history.items) a.rest)),
      )

  not_called_course : CallsNone tx m.txs m'.txs m.shared m'.shared → ChangesOpen m m' → course_of m' ≡ course_of m
  not_called_course c rest =
      let ch = c.changes in
      let same = ap ops_in ch.was in
      turns_to_same (course_of m) tx (life_at ch.before.at) ch.before.undo.entries (course_of m') same
      (turns_as (course_of m) tx (life_at ch.before.at) (life_at ch.before.at) (life_at ch.after.at) (life_at ch.before.at) ch.after.undo.entries ch.before.undo.entries (course_of m') refl (ap life_at c.tells.idle) c.tells.makes.entries
      (turned m m' tx (Some ch.before) (Some ch.after) ch.was (inserted m.txs m'.txs tx ch.after ch.is) (ap (λ (n : ManagerFields P). n.begun) rest) (same_items m m' tx c.tells.makes.items)))

-- ## Refusals

idle_at : (a : At) → IsIdle a → life_at a ≡ Life.Idle
idle_at At.Idle is = refl
idle_at (At.Pending o) none = absurd none
idle_at (At.Undoing inverting) none = absurd none

not_undoing_at : (a : At) → IsNotUndoing a → life_at a ≡ Life.Undoing → ⊥
not_undoing_at At.Idle is undoing = absurd cc
not_undoing_at (At.Pending o) is undoing = absurd cc
not_undoing_at (At.Undoing inverting) none undoing = absurd none

begin_refused : {P : Type 0} (m : ManagerFields P) (reason : Refusal) → IsCauseAtBegin reason m → Contains (TooManyOpen ∷ IdsSpent ∷ OutOfMemory ∷ []) reason
begin_refused m Refusal.TooManyOpen cause = (0, omega arith, refl)
begin_refused m Refusal.IdsSpent cause = (1, omega arith, refl)
begin_refused m Refusal.OutOfMemory cause = (2, omega arith, refl)
begin_refused m other none = absurd none

-- what the transaction of a number is not at, by why an event of it is refused
module _ (txs : Table) (tx : ℕ) where
  abbrev here : Life
  here = life_in (map.get txs tx)

  idle_here : IsOpenAt txs tx IsIdle → here ≡ Life.Idle
  idle_here there = ap life_in there.there ∙ idle_at there.one.at there.is_at

  undoing_here : IsOpenAt txs tx IsUndoing → here ≡ Life.Undoing
  undoing_here there = ap life_in there.there ∙ ap life_at (undoing_of_at there.one.at there.is_at).1

  pending_here : IsOpenAt txs tx IsPending → (op : ObjOp) × (here ≡ Life.Pending op)
  pending_here there = let o = pending_of there.one.at there.is_at in (asked_op o.0.request, ap life_in there.there ∙ ap life_at o.1)

  no_such : (e : Event) → map.get txs tx ≡ None → Refusal.NoSuchTx ≡ reason_at here e
  no_such e none = ap (λ l. reason_at l e) (sym (ap life_in none))

  not_running : (e : Event) → here ≡ Life.Idle → Refusal.NotRunning ≡ reason_at here e
  not_running e is = ap (λ l. reason_at l e) (sym is)

  in_abort : (e : Event) → IsOpenAt txs tx IsUndoing → Refusal.Undoing ≡ reason_at here e
  in_abort e there = ap (λ l. reason_at l e) (sym (undoing_here there))

  not_busy : (reason : Refusal) → IsCauseAtStep reason txs tx → (IsBusy here → ⊥) × (reason ≡ reason_at here (Event.Step tx))
  not_busy Refusal.NoSuchTx none = ((λ busy. busy.0 (ap life_in none)), no_such (Event.Step tx) none)
  not_busy Refusal.NotRunning there = ((λ busy. busy.1 (idle_here there)), not_running (Event.Step tx) (idle_here there))
  not_busy other none = absurd none

  not_pending : (reason : Refusal) → IsCauseAtCancel reason txs tx → ((op : ObjOp) → here ≡ Life.Pending op → ⊥) × (reason ≡ reason_at here (Event.Cancel tx))
  not_pending Refusal.NoSuchTx none = ((λ op is. let both : Life.NotOpen ≡ Life.Pending op = sym (ap life_in none) ∙ is in absurd cc), no_such (Event.Cancel tx) none)
  not_pending Refusal.Undoing there = ((λ op is. let both : Life.Undoing ≡ Life.Pending op = sym (undoing_here there) ∙ is in absurd cc), in_abort (Event.Cancel tx) there)
  not_pending Refusal.NotRunning there = ((λ op is. let both : Life.Idle ≡ Life.Pending op = sym (idle_here there) ∙ is in absurd cc), not_running (Event.Cancel tx) (idle_here there))
  not_pending other none = absurd none

  not_idle : (reason : Refusal) → IsNotIdle reason txs tx → here ≡ Life.Idle → ⊥
  not_idle Refusal.NoSuchTx none is = let both : Life.NotOpen ≡ Life.Idle = sym (ap life_in none) ∙ is in absurd cc
  not_idle Refusal.Undoing there is = let both : Life.Undoing ≡ Life.Idle = sym (undoing_here there) ∙ is in absurd cc
  not_idle Refusal.Running there is = let p = pending_here there in (let both : Life.Pending p.0 ≡ Life.Idle = sym p.1 ∙ is in absurd cc)
  not_idle other none is = absurd none

  -- why an event is refused that is for an idle one, where that is said in the same words for each other life
  module _ (e : Event) (running : (op : ObjOp) → reason_at (Life.Pending op) e ≡ Refusal.Running) where
    reason_not_idle : (reason : Refusal) → IsNotIdle reason txs tx → reason ≡ reason_at here e
    reason_not_idle Refusal.NoSuchTx none = no_such e none
    reason_not_idle Refusal.Undoing there = in_abort e there
    reason_not_idle Refusal.Running there = let p = pending_here there in sym (ap (λ l. reason_at l e) p.1 ∙ running p.0)
    reason_not_idle other none = absurd none

    refused_at : (reason : Refusal) (life : Life) → (life ≡ Life.Idle → ⊥) → reason ≡ reason_at life e → MayRefuseCall life e reason
    refused_at reason Life.Idle not is = absurd (not refl)
    refused_at reason Life.NotOpen not is = is
    refused_at reason (Life.Pending op) not is = is
    refused_at reason Life.Undoing not is = is

    call_refused : (max_ops : ℕ) (reason : Refusal) → IsCauseAtCallOf reason txs tx max_ops → MayRefuseCall here e reason
    call_refused max_ops Refusal.LogFull (count, one, full) = subst (λ l. MayRefuseCall l e LogFull) (sym (ap life_in one.there ∙ ap life_at one.idle)) (0, omega arith, refl)
    call_refused max_ops other cause = refused_at other here (not_idle other cause) (reason_not_idle other cause)

    call_no_memory : (max_ops : ℕ) → MayCallOne txs tx max_ops → MayRefuseCall here e OutOfMemory
    call_no_memory max_ops (count, one, room) = subst (λ l. MayRefuseCall l e OutOfMemory) (sym (ap life_in one.there ∙ ap life_at one.idle)) (1, omega arith, refl)

  not_undoing_reason : (a : At) → IsNotUndoing a → Refusal.NotRunning ≡ reason_at (life_at a) (Event.WholeUndo tx)
  not_undoing_reason At.Idle is = refl
  not_undoing_reason (At.Pending o) is = refl
  not_undoing_reason (At.Undoing inverting) none = absurd none

  not_undoing : (reason : Refusal) → IsCauseAtUndo reason txs tx → (here ≡ Life.Undoing → ⊥) × (reason ≡ reason_at here (Event.WholeUndo tx))
  not_undoing Refusal.NoSuchTx none = ((λ is. let both : Life.NotOpen ≡ Life.Undoing = sym (ap life_in none) ∙ is in absurd cc), no_such (Event.WholeUndo tx) none)
  not_undoing Refusal.NotRunning there = (
    (λ is. not_undoing_at there.one.at there.is_at (sym (ap life_in there.there) ∙ is)),
    not_undoing_reason there.one.at there.is_at ∙ ap (λ l. reason_at l (Event.WholeUndo tx)) (sym (ap life_in there.there)),
  )
  not_undoing other none = absurd none

-- ## Runs

-- **An event more.**
pub tells_on : (c d d' : Course) (events : List Event) (tolds : List Told) (items items' : List TraceItem) (e : Event) (t : Told) → TellsAll c events tolds d items → Tells d e t d' → HasAdded d e t d' items items'
    → TellsAll c (events ++ e ∷ []) (tolds ++ t ∷ []) d' items'
tells_on c d d' [] [] items items' e t (same, none) tells (here, is, adds) = (
  d',
  subst (λ (x : Course). Tells x e t d') same tells,
  here,
  subst (λ (x : Course). AddsItems x e t d' here) same adds,
  [],
  is ∙ ap (λ l. l ++ here) none ∙ sym (append-nil here),
  (refl, refl),
)
tells_on c d d' [] (told ∷ tolds) items items' e t none tells adds = absurd none
tells_on c d d' (event ∷ events) [] items items' e t none tells adds = absurd none
tells_on c d d' (event ∷ events) (told ∷ tolds) items items' e t (next, first, at_first, added, later, is, rest) tells (here, more, adds) = (
  next,
  first,
  at_first,
  added,
  later ++ here,
  more ∙ ap (λ l. l ++ here) is ∙ append_assoc at_first later here,
  tells_on next d d' events tolds later (later ++ here) e t rest tells (here, refl, adds),
)

module _ {P : Type 0} (bits_of : P → ℕ → ℕ) where
  -- **What an event makes of the course.**
  pub event_course : (m m' : ManagerFields P) → IsManager bits_of m → (e : Event) (t : Told) → Meets bits_of e t m m' → Tells (course_of m) e t (course_of m') × IsManager bits_of m'
  event_course m m' h Event.Begin (Told.Begun tx) a = (begin_course bits_of m m' h tx a, begin_kept bits_of m m' h (Ok tx) a)
  event_course m m' h Event.Begin (Told.Refused reason) a = ((begin_refused m reason a.0, ap course_of a.1), begin_kept bits_of m m' h (Err reason) a)
  event_course m m' h Event.Begin other none = absurd none
  event_course m m' h (Event.Call tx op) Told.Called a = (call_course bits_of tx m m' op a, call_kept bits_of m m' h tx op (Ok tt) a)
  event_course m m' h (Event.Call tx op) (Told.Refused Refusal.OutOfMemory) a = ((call_no_memory m.txs tx (Event.Call tx op) (λ o. refl) m.max_ops a.0, not_called_course bits_of m m' h tx a.1 a.2), call_kept bits_of m m' h tx op (Err Refusal.OutOfMemory) a)
  event_course m m' h (Event.Call tx op) (Told.Refused reason) a = ((call_refused m.txs tx (Event.Call tx op) (λ o. refl) m.max_ops reason a.0, ap course_of a.1), call_kept bits_of m m' h tx op (Err reason) a)
  event_course m m' h (Event.Call tx op) other none = absurd none
  event_course m m' h (Event.Step tx) (Told.Answered told) (a, leaves, named) = (step_course bits_of tx m m' told a leaves, step_kept bits_of m m' h tx (Ok told) a)
  event_course m m' h (Event.Step tx) (Told.Refused reason) a = ((not_busy m.txs tx reason a.0, ap course_of a.1), step_kept bits_of m m' h tx (Err reason) a)
  event_course m m' h (Event.Step tx) other none = absurd none
  event_course m m' h (Event.Cancel tx) Told.Cancelled (a, keeps) = (cancel_course bits_of tx m m' a.0 a.1 a.2, cancel_kept bits_of m m' h tx (Ok tt) a)
  event_course m m' h (Event.Cancel tx) (Told.Refused reason) a = ((not_pending m.txs tx reason a.0, ap course_of a.1), cancel_kept bits_of m m' h tx (Err reason) a)
  event_course m m' h (Event.Cancel tx) other none = absurd none
  event_course m m' h (Event.Commit tx) (Told.Committed number) a = (commit_course bits_of m m' h tx number a, commit_kept bits_of m m' h tx (Ok number) a)
  event_course m m' h (Event.Commit tx) (Told.Refused reason) a = (((not_idle m.txs tx reason a.0, reason_not_idle m.txs tx (Event.Commit tx) (λ o. refl) reason a.0), ap course_of a.1), commit_kept bits_of m m' h tx (Err reason) a)
  event_course m m' h (Event.Commit tx) other none = absurd none
  event_course m m' h (Event.Abort tx) (Told.Aborting true) a = (close_course bits_of m m' h tx a, abort_kept bits_of m m' h tx (Ok true) a)
  event_course m m' h (Event.Abort tx) (Told.Aborting false) a = (abort_course bits_of m m' h tx a, abort_kept bits_of m m' h tx (Ok false) a)
  event_course m m' h (Event.Abort tx) (Told.Refused reason) a = (((not_idle m.txs tx reason a.0, reason_not_idle m.txs tx (Event.Abort tx) (λ o. refl) reason a.0), ap course_of a.1), abort_kept bits_of m m' h tx (Err reason) a)
  event_course m m' h (Event.Abort tx) other none = absurd none
  event_course m m' h (Event.Whole tx op) (Told.Answered told) (a, leaves, named) = (whole_course bits_of tx m m' op told h a, whole_kept bits_of m m' h tx op (Ok told) a)
  event_course m m' h (Event.Whole tx op) (Told.Refused Refusal.OutOfMemory) a = ((call_no_memory m.txs tx (Event.Whole tx op) (λ o. refl) m.max_ops a.0, not_called_course bits_of m m' h tx a.1 a.2), whole_kept bits_of m m' h tx op (Err Refusal.OutOfMemory) a)
  event_course m m' h (Event.Whole tx op) (Told.Refused reason) a = ((call_refused m.txs tx (Event.Whole tx op) (λ o. refl) m.max_ops reason a.0, ap course_of a.1), whole_kept bits_of m m' h tx op (Err reason) a)
  event_course m m' h (Event.Whole tx op) other none = absurd none
  event_course m m' h (Event.WholeUndo tx) (Told.Answered told) (a, leaves, named) = (undo_course bits_of tx m m' told h a.0 a.1, whole_undo_kept bits_of m m' h tx (Ok told) a)
  event_course m m' h (Event.WholeUndo tx) (Told.Refused reason) a = ((not_undoing m.txs tx reason a.0, ap course_of a.1), whole_undo_kept bits_of m m' h tx (Err reason) a)
  event_course m m' h (Event.WholeUndo tx) other none = absurd none

  -- what stands of an open transaction is what the history says
  pub stands_in : (m : ManagerFields P) → IsManager bits_of m → (tx : ℕ) (o : Option Transaction) → map.get m.txs tx ≡ o → (lists_by m).transcripts tx ≡ ops_in o
  stands_in m h tx None is =
      nothing_of_others m.shared.history.items h.base h.sound.match.records.history tx
      (λ runs. false≢true (sym (ap is_some is) ∙ sym (h.sound.opened tx) ∙ (h.sound.match.records.running tx).1 runs))
  stands_in m h tx (Some one) is = sym (h.sound.fits tx one is).stands

  -- who is at nothing keeps no first image
  busy_at : (s : State) (tx : ℕ) (t : Transaction) (page : ℕ) (first : Option Page) (a : At) → FitsAt a s tx t → map.get s.images tx ≡ Some t.subtx.images → image_of t.subtx.images page ≡ Some first → IsBusy (life_at a)
  busy_at s tx t page first At.Idle fits own keeps =
      let same : Some map.empty ≡ Some t.subtx.images = sym fits.no_images ∙ own in
      let none : None ≡ Some first = sym (map.get-empty {X = Option Page} nat_cmp page) ∙ ap (λ o. image_of (unwrap_or o map.empty) page) same ∙ keeps in
      absurd cc
  busy_at s tx t page first (At.Pending o) fits own keeps = busy_by (At.Pending o) (life_at (At.Pending o)) refl (λ is. absurd cc)
  busy_at s tx t page first (At.Undoing inverting) fits own keeps = busy_by (At.Undoing inverting) Life.Undoing refl (λ is. absurd cc)

  pub keeps_busy : (m : ManagerFields P) → IsManager bits_of m → (page : ℕ) (first : Option Page) (image : KeepsImage m.txs page first) → IsBusy (life_in (map.get m.txs image.tx))
  keeps_busy m h page first image =
      subst (λ o. IsBusy (life_in o)) (sym image.there)
      (busy_at (state_of bits_of m h.images h.base) image.tx image.one page first image.one.at (h.sound.fits image.tx image.one image.there).where_at (h.sound.kept image.tx ∙ ap images_kept image.there) image.keeps)

  -- **The course of a new manager is the opening one.**
  pub new_course : (limits : Limits) (pseudo : P) (m : ManagerFields P) → IsNew m limits pseudo → course_of m ≡ opening_course
  new_course limits pseudo m new i = record {
    begun = new.begun i;
    committed = ap committed_by new.items i;
    life = (ap (read life_in) new.txs ∙ alike _ _ (λ tx. ap life_in (map.get-empty {X = Transaction} nat_cmp tx))) i;
    ops = (ap (read ops_in) new.txs ∙ alike _ _ (λ tx. ap ops_in (map.get-empty {X = Transaction} nat_cmp tx))) i;
  }
