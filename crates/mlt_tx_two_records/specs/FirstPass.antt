-- The first pass of an operation on two records: where it stands, and what its steps tell
use Rattle.std.specs.Prelude.{ℕ, ◌≡◌, ◌≢◌, ◌≤◌, ◌+◌, ◌⊎◌, Option, None, Some}
use Rattle.mlt_object_kinds.specs.declared.operation.ObjReply.{ObjReply}
use Rattle.mlt_object_base.specs.{declared.record.RecChange.RecChange, declared.request.Request.Request, Requests.decision, Requests.size_decision, Requests.size_key_of, Requests.target_of}
use Rattle.mlt_page_locks.specs.Requests.{IsLowest, conflicts}
use Rattle.mlt_hash_access.specs.{LocalStates.LocalState, PageTurns.TakesTurn, PageTurns.TurnsBack, Views.IsUnwritten, Views.View, Views.view_of}
use Rattle.mlt_hash_form.specs.Plans.{WriteFields}
use Rattle.mlt_hash_pair.specs.Changes.{HasChanged, IsFull, IsFullBehind, IsHolding, Task, WritesBucketsAlone, task_of}
use Rattle.mlt_hash_pair.specs.Pairs.{IsFinding, IsFound, IsUnderWay, PairFields, least_steps, mode_next, most_steps, page_next}
use Rattle.mlt_hash_pair.specs.{Descents.found_of, Descents.page_of, declared.asked.PairChanges.PairChanges}
use Rattle.mlt_hash.specs.{Walks.WalkContext, Walks.IsAtStart, declared.pass.Change.Change}
use Rattle.mlt_tx_two_records.specs.{declared.first.FirstAnswer.FirstAnswer, Performing.AddsElement, Performing.Performs, Performing.asked_of, Records.PlansRecord, Records.WritesRecord}

-- ---- where it stands

-- the keys of the records that a request changes: its own, and that of the size of its set, which is another one
pub record HasKeys (request : Request) (own size : ℕ) : Type 0 where
  pub own_is : own ≡ (target_of request).0
  pub size_is : size_key_of request ≡ Some size
  pub apart : own ≢ size

-- It is on its way to both buckets.
pub record IsFindingBoth (context : WalkContext) (request : Request) (pair : PairFields) (view : View)
    : Type 0 where
  pub keys : HasKeys request pair.left pair.right
  pub under_way : IsUnderWay pair
  pub finding : IsFinding context.bits context.root pair view

-- What was found of both keys asks for these changes of their records, and tells this reply.
pub record AsksForBoth (request : Request) (reply : ObjReply) (own size : Option ℕ) : Type 0 where
  pub change : RecChange
  pub resize : RecChange
  pub decided : decision request own ≡ (reply, Some change)
  pub resized : size_decision request reply size ≡ Some resize

-- What was found asks for no change, and tells this reply.
pub record AsksForNone (request : Request) (reply : ObjReply) (own size : Option ℕ) : Type 0 where
  pub decided : decision request own ≡ (reply, None)
  pub resized : size_decision request reply size ≡ None

-- what a pair is asked for then
abbrev pub changes_for : RecChange → RecChange → Option ℕ → Option ℕ → PairChanges
changes_for change resize own size =
    record { left = Some (asked_of change own); right = Some (asked_of resize size) }

-- The change of the size's record is written, and that of the own one is planned, in another bucket; or the other way round.
abbrev pub OwesEither : WalkContext → Change → Change → PairFields → View → View → WriteFields → Type 0
OwesEither context own size pair old view write =
    (WritesRecord context size pair.right (page_of pair.right_descent) old view
    × PlansRecord context own pair.left (page_of pair.left_descent) view write)
    ⊎ (WritesRecord context own pair.left (page_of pair.left_descent) old view
    × PlansRecord context size pair.right (page_of pair.right_descent) view write)

-- The change in the later bucket is written, and that in the earlier one is owed.
pub record OwesOne (context : WalkContext) (request : Request) (pair : PairFields) (reply : ObjReply)
    (view : View) : Type 0 where
  pub keys : HasKeys request pair.left pair.right
  pub changed : HasChanged context.bits context.root context.active context.tx pair view
  pub asks : AsksForBoth request reply (found_of pair.left_descent) (found_of pair.right_descent)
  pub own_done : Change
  pub size_done : Change
  pub own_performs : Performs asks.change (found_of pair.left_descent) own_done
  pub size_performs : Performs asks.resize (found_of pair.right_descent) size_done
  pub two : page_of pair.left_descent ≢ page_of pair.right_descent
  pub old : View
  pub unwritten : IsUnwritten old
  pub write : WriteFields
  pub owed : pair.owed ≡ Some write
  pub owes : OwesEither context own_done size_done pair old view write

-- Both changes are written: that of the own record, and that of the size's with the first one in it.
pub record ChangesBoth (context : WalkContext) (request : Request) (pair : PairFields) (reply : ObjReply)
    (view : View) : Type 0 where
  pub asks : AsksForBoth request reply (found_of pair.left_descent) (found_of pair.right_descent)
  pub own_done : Change
  pub size_done : Change
  pub own_performs : Performs asks.change (found_of pair.left_descent) own_done
  pub size_performs : Performs asks.resize (found_of pair.right_descent) size_done
  pub old : View
  pub mid : View
  pub unwritten : IsUnwritten old
  pub own : WritesRecord context own_done pair.left (page_of pair.left_descent) old mid
  pub size : WritesRecord context size_done pair.right (page_of pair.right_descent) mid view

-- No change is asked for, and nothing is written.
pub record ChangesNone (request : Request) (pair : PairFields) (reply : ObjReply) (view : View)
    : Type 0 where
  pub asks : AsksForNone request reply (found_of pair.left_descent) (found_of pair.right_descent)
  pub unwritten : IsUnwritten view

-- All is written, and both buckets are still held: the next step is the end.
pub record HasToldFirst (context : WalkContext) (request : Request) (pair : PairFields) (reply : ObjReply)
    (view : View) : Type 0 where
  pub keys : HasKeys request pair.left pair.right
  pub found : IsFound pair
  pub holding : IsHolding context.bits context.root pair view
  pub alone : WritesBucketsAlone pair view
  pub done : ChangesNone request pair reply view ⊎ ChangesBoth context request pair reply view

-- ---- what its steps tell

-- One step of the first pass is taken: of those up to both buckets, by the two bounds.
pub record StepsToBuckets (before after : PairFields) : Type 0 where
  pub least : least_steps before.left_descent before.right_descent
      ≤ least_steps after.left_descent after.right_descent + 1
  pub most : most_steps after.left_descent after.right_descent + 1
      ≤ most_steps before.left_descent before.right_descent

-- it was the last one of these
pub record WasLast (before : PairFields) : Type 0 where
  pub least : least_steps before.left_descent before.right_descent ≤ 1
  pub most : 1 ≤ most_steps before.left_descent before.right_descent

-- The bucket of either key has no room: of its own key, or of the size's with the own record's change in it.
abbrev pub HasFullBucket : Task → ℕ → View → Type 0
HasFullBucket task tx view =
    IsFull task.changes.left task.active tx task.left task.left_page view
    ⊎ IsFullBehind task tx view

-- what a pair is to do that has found its keys
abbrev pub task_for : WalkContext → PairFields → RecChange → RecChange → Task
task_for context pair change resize =
    task_of context.active pair (page_of pair.left_descent) (page_of pair.right_descent)
    (changes_for change resize (found_of pair.left_descent) (found_of pair.right_descent))

-- It has found both keys, and one of the buckets has no room. All is rolled back, and nothing is held.
pub record FindsNoRoom (context : WalkContext) (old new : LocalState) (request : Request) (before : PairFields)
    : Type 0 where
  pub back : TurnsBack old new
  pub start : IsAtStart (view_of new)
  pub adds : AddsElement request
  pub last : WasLast before
  pub pair : PairFields
  pub keys : HasKeys request pair.left pair.right
  pub found : IsFound pair
  pub finding : IsFinding context.bits context.root pair (view_of back.mid)
  pub reply : ObjReply
  pub asks : AsksForBoth request reply (found_of pair.left_descent) (found_of pair.right_descent)
  pub full : HasFullBucket (task_for context pair asks.change asks.resize) context.tx (view_of back.mid)

-- It waits for its next page, told the lowest transaction whose lock stands against its own. Nothing has changed.
pub record PairWaits (root : ℕ) (old new : LocalState) (before after : PairFields) (page by : ℕ)
    : Type 0 where
  pub page_is : page ≡ page_next root before
  pub lowest : IsLowest (conflicts old.locks old.running.tx page (mode_next before)) by
  pub pages : new ≡ old
  pub stays : after ≡ before

-- what a step of the first pass tells, up to the one that finds both keys
abbrev pub TellsOfFirst : WalkContext → LocalState → LocalState → Request → PairFields → PairFields → FirstAnswer
    → Type 0
TellsOfFirst context old new request before after FirstAnswer.Going =
    TakesTurn old new × StepsToBuckets before after
    × IsFindingBoth context request after (view_of new)
TellsOfFirst context old new request before after (FirstAnswer.Waiting page by) =
    PairWaits context.root old new before after page by
TellsOfFirst context old new request before after (FirstAnswer.OneLeft reply) =
    TakesTurn old new × WasLast before × OwesOne context request after reply (view_of new)
TellsOfFirst context old new request before after (FirstAnswer.Told reply) =
    TakesTurn old new × WasLast before × HasToldFirst context request after reply (view_of new)
TellsOfFirst context old new request before after FirstAnswer.Full =
    FindsNoRoom context old new request before
