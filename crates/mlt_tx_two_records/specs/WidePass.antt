-- The wide pass of an operation on two records, which adds an element to a set: where it stands, and what its steps tell
use Rattle.std.specs.Prelude.{ℕ, ◌≡◌, ◌≤◌, ◌⊎◌, false, Option, None, Some}
use Rattle.mlt_types.specs.declared.{mode.Mode.TheVariants.Exclusive, refusal.Refusal.Refusal}
use Rattle.mlt_page.specs.declared.page.Page.{Page}
use Rattle.mlt_object_kinds.specs.declared.operation.ObjReply.{ObjReply}
use Rattle.mlt_object_base.specs.{declared.record.RecChange.RecChange, declared.record.RecChange.TheVariants.Add, declared.request.Request.Request, Requests.decision, Requests.size_decision, Requests.target_of}
use Rattle.mlt_hash_access.specs.{LocalStates.LocalState, PageTurns.TurnsBack, Views.HasWritten, Views.View, Views.rebased, Views.view_of}
use Rattle.mlt_hash.specs.Walks.{WalkContext, Before, HasRead, IsChanged, IsStanding, SlotsStood, WalkFields, context_after, before_of, one_key}
use Rattle.mlt_hash.specs.{Splitting.IsUnderWay, Steps.steps_to_bucket, declared.pass.Change.Change, declared.pass.Pass.Pass, declared.pass.Phase.Phase}
use Rattle.mlt_tx_two_records.specs.{FirstPass.HasKeys, Performing.AddsElement, Performing.Performs}
use Rattle.mlt_tx_two_records.specs.WalkSteps.{BeginsToSplit, GoesNearer, LacksPage, LacksRoom, WalkWaits}

-- ---- where it stands

-- a wide pass to this key that has taken no step
abbrev pub wide_to : ℕ → WalkFields
wide_to key = record {
  key = key;
  mode = Exclusive;
  pass = Pass.Wide;
  phase = Phase.Start;
  split = None;
}

-- a walk to this key in a wide pass, which locks all exclusively
pub record IsWideTo (walk : WalkFields) (key : ℕ) : Type 0 where
  pub key_is : walk.key ≡ key
  pub wide : walk.pass ≡ Pass.Wide
  pub mode : walk.mode ≡ Exclusive

-- of the value of the record that it is to put behind its splits this is so
abbrev pub PutsThen : Phase → (ℕ → Type 0) → Type 0
PutsThen (Phase.Adding value bucket room_depth unsplit) Is = Is value
PutsThen (Phase.Splitting value room_depth) Is = Is value
PutsThen other Is = Unit {0}

-- The own record, of which there was none, is put with this value.
abbrev pub PutsOwn : Request → ObjReply → ℕ → Type 0
PutsOwn request reply value = decision request None ≡ (reply, Some (Add value))

-- so is that of the size
abbrev pub PutsSize : Request → ObjReply → ℕ → Type 0
PutsSize request reply value = size_decision request reply None ≡ Some (Add value)

-- It goes to its own key.
pub record IsGoingToOwn (context : WalkContext) (request : Request) (walk : WalkFields) (view : View)
    : Type 0 where
  pub adds : AddsElement request
  pub size : ℕ
  pub keys : HasKeys request walk.key size
  pub to_key : IsWideTo walk (target_of request).0
  pub under_way : IsUnderWay walk.phase
  pub stands : IsStanding (one_key context) walk view
  pub puts : PutsThen walk.phase (λ value. (reply : ObjReply) × PutsOwn request reply value)

-- The own record is put, where none was found, and this is what was done then: seen as it was when the pass went on. What was
-- seen then is seen still.
pub record HasPutOwn (context : WalkContext) (request : Request) (view : View) (since : Before) : Type 0 where
  pub walk : WalkFields
  pub to_key : IsWideTo walk (target_of request).0
  pub then_view : View
  pub bucket : ℕ
  pub done : Change
  pub phase : walk.phase ≡ Phase.Changed bucket done
  pub changed : IsChanged (one_key context) walk then_view bucket done
  pub reply : ObjReply
  pub value : ℕ
  pub decided : PutsOwn request reply value
  pub performs : Performs (Add value) None done
  pub since_is : since ≡ before_of then_view
  pub seen : (q : ℕ) (p : Option Page) → then_view.seen q ≡ Some p → view.seen q ≡ Some p
  pub written : HasWritten since.written view
  pub stood : SlotsStood since.written context.tx view

-- It has gone on to the key of the size, over what it wrote.
pub record IsGoingToSize (context : WalkContext) (request : Request) (walk : WalkFields) (view : View)
    : Type 0 where
  pub adds : AddsElement request
  pub since : Before
  pub put : HasPutOwn context request view since
  pub keys : HasKeys request (target_of request).0 walk.key
  pub to_key : IsWideTo walk walk.key
  pub under_way : IsUnderWay walk.phase
  pub stands : IsStanding (context_after since context) walk (rebased since.written view)
  pub puts : PutsThen walk.phase (PutsSize request put.reply)

-- The own record is there: it is told so, and nothing is written. What the size is was not read.
pub record HasToldPresent (context : WalkContext) (request : Request) (walk : WalkFields) (reply : ObjReply)
    (view : View) : Type 0 where
  pub adds : AddsElement request
  pub size : ℕ
  pub keys : HasKeys request walk.key size
  pub to_key : IsWideTo walk (target_of request).0
  pub bucket : ℕ
  pub depth : ℕ
  pub value : ℕ
  pub at_bucket : walk.phase ≡ Phase.AtBucket bucket depth (Some value)
  pub stands : IsStanding (one_key context) walk view
  pub decided : decision request (Some value) ≡ (reply, None)
  pub resized : (found : Option ℕ) → size_decision request reply found ≡ None

-- Both records are written, the size's over what was written for the own one.
pub record HasToldBoth (context : WalkContext) (request : Request) (walk : WalkFields) (reply : ObjReply)
    (view : View) : Type 0 where
  pub adds : AddsElement request
  pub since : Before
  pub put : HasPutOwn context request view since
  pub reply_is : reply ≡ put.reply
  pub keys : HasKeys request (target_of request).0 walk.key
  pub to_key : IsWideTo walk walk.key
  pub bucket : ℕ
  pub done : Change
  pub phase : walk.phase ≡ Phase.Changed bucket done
  pub stands : IsStanding (context_after since context) walk (rebased since.written view)
  pub found : Option ℕ
  pub read : HasRead (context_after since context) walk.key (rebased since.written view) found
  pub resize : RecChange
  pub resized : size_decision request reply found ≡ Some resize
  pub performs : Performs resize found done

-- ---- what its steps tell

-- it had split its bucket, and there was room
abbrev pub PutsBehind : WalkFields → Type 0
PutsBehind walk = (value bucket room_depth : ℕ) × (walk.phase ≡ Phase.Adding value bucket room_depth false)

-- The step changed the key's record: at the bucket, or behind splits.
abbrev pub HasChangedNow : WalkFields → Type 0
HasChangedNow before = (steps_to_bucket before.phase ≡ 1) ⊎ PutsBehind before

-- Why it is refused: no split makes room, or it lacks a page, or memory, to make a page or to keep an image. The record of its
-- own key takes none where no bucket is split.
abbrev pub CauseAtOwn : Refusal → WalkContext → LocalState → LocalState → WalkFields → Type 0
CauseAtOwn Refusal.NoRoom context old mid before = LacksRoom context mid before ⊎ LacksPage context old before
CauseAtOwn Refusal.OutOfMemory context old mid before =
    (steps_to_bucket before.phase ≡ 0) × (LacksPage context old before → ⊥)
CauseAtOwn other context old mid before = ⊥

abbrev pub CauseAtSize : Refusal → WalkContext → LocalState → LocalState → WalkFields → Type 0
CauseAtSize Refusal.NoRoom context old mid before = LacksRoom context mid before ⊎ LacksPage context old before
CauseAtSize Refusal.OutOfMemory context old mid before =
    (steps_to_bucket before.phase ≤ 1) × (LacksPage context old before → ⊥)
CauseAtSize other context old mid before = ⊥

-- It is refused, and all is rolled back.
pub record OwnRefused (context : WalkContext) (old new : LocalState) (before : WalkFields) (reason : Refusal)
    : Type 0 where
  pub back : TurnsBack old new
  pub cause : CauseAtOwn reason (one_key context) old back.mid before

pub record SizeRefused (context : WalkContext) (old new : LocalState) (request : Request) (before : WalkFields)
    (reason : Refusal) : Type 0 where
  pub back : TurnsBack old new
  pub since : Before
  pub put : HasPutOwn context request (view_of old) since
  pub cause : CauseAtSize reason (context_after since context) old back.mid before

-- One step on the way to the key: nearer to the change, or at a bucket without room.
abbrev pub WalksOn : WalkContext → LocalState → LocalState → WalkFields → WalkFields → Type 0
WalksOn context old new before after =
    GoesNearer context.root (view_of old) (view_of new) before after
    ⊎ BeginsToSplit context new before after

-- The walk to the size's key waits over what was written for the own one.
pub record SizeWaits (context : WalkContext) (old new : LocalState) (request : Request)
    (before after : WalkFields) (page by : ℕ) : Type 0 where
  pub since : Before
  pub put : HasPutOwn context request (view_of old) since
  pub waits : WalkWaits (context_after since context) old new before after page by

-- and so it walks on
pub record SizeWalksOn (context : WalkContext) (old new : LocalState) (request : Request)
    (before after : WalkFields) : Type 0 where
  pub since : Before
  pub put : HasPutOwn context request (view_of new) since
  pub walks : WalksOn (context_after since context) old new before after

-- It goes on to the key of the size, since its own record is put. Two steps lead to that bucket.
pub record GoesOver (context : WalkContext) (new : LocalState) (request : Request) (before after : WalkFields)
    : Type 0 where
  pub size : IsGoingToSize context request after (view_of new)
  pub changed : HasChangedNow before
  pub steps : steps_to_bucket after.phase ≡ 2
