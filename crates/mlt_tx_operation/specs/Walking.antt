-- Where an operation on one record stands between two of its steps
use Rattle.std.specs.Prelude.{ℕ, ◌≡◌, ◌+◌, Option, None, Some}
use Rattle.mlt_page.specs.declared.page.Page.{Page}
use Rattle.mlt_object_kinds.specs.declared.operation.ObjReply.{ObjReply}
use Rattle.mlt_object_base.specs.{declared.record.RecChange.RecChange, declared.record.RecChange.TheVariants.Revive, declared.request.Request.Request, declared.request.Request.TheVariants.Do, declared.request.Request.TheVariants.TakeBack, Effects.inverse_of, Records.CanChange, Requests.decision, Requests.size_key_of, Requests.target_of}
use Rattle.mlt_hash_form.specs.Held.{Agrees}
use Rattle.mlt_hash_access.specs.{LocalStates.LocalState, Views.View, Views.view_of}
use Rattle.mlt_hash.specs.Walks.{WalkContext, HasRead, IsAtBucket, IsStanding, MayWalk, WalkFields}
use Rattle.mlt_hash.specs.{Changes.HasOwnGhost, declared.pass.Change.Change, declared.pass.Pass.Pass, declared.pass.Phase.Phase}
use Rattle.mlt_tx_two_records.specs.{Performing.AsksToAdd, Performing.Performs, WalkSteps.steps_to_change}

-- an operation on one record: what it is asked, what it is told, once its next step is its end, and its walk
pub record WalkingFields : Type 0 where
  pub request : Request
  pub reply : Option ObjReply
  pub walk : WalkFields

abbrev pub walking : Request → Option ObjReply → WalkFields → WalkingFields
walking request reply walk = record { request = request; reply = reply; walk = walk }

-- the walk of one that has taken no step
abbrev pub walk_for : Request → WalkFields
walk_for request = record {
  key = (target_of request).0;
  mode = (target_of request).1;
  pass = Pass.First;
  phase = Phase.Start;
  split = None;
}

-- it is told this reply, and what it found asks for no change
abbrev pub IsTold : WalkingFields → Option ℕ → Type 0
IsTold o found =
    (reply : ObjReply) × (o.reply ≡ Some reply) × (decision o.request found ≡ (reply, None))

-- a record of this value is to be added, since none was found
abbrev pub IsToAdd : WalkingFields → ℕ → Type 0
IsToAdd o value = (o.reply ≡ None) × AsksToAdd o.request value

-- what it found asked for the change that is written
pub record HasPerformed (context : WalkContext) (o : WalkingFields) (view : View) (done : Change)
    : Type 0 where
  pub found : Option ℕ
  pub reply : ObjReply
  pub decided : RecChange
  pub read : HasRead context o.walk.key view found
  pub told : o.reply ≡ Some reply
  pub asked : decision o.request found ≡ (reply, Some decided)
  pub performs : Performs decided found done

-- what the walk's phase says of the reply
abbrev pub FitsPhase : Phase → WalkContext → WalkingFields → View → Type 0
FitsPhase Phase.Start context o view = o.reply ≡ None
FitsPhase (Phase.Headed dir row depth) context o view = o.reply ≡ None
FitsPhase (Phase.Placed bucket depth) context o view = o.reply ≡ None
FitsPhase (Phase.AtBucket bucket depth found) context o view = IsTold o found
FitsPhase (Phase.Full next) context o view = ⊥
FitsPhase (Phase.Adding value bucket room_depth unsplit) context o view = IsToAdd o value
FitsPhase (Phase.Splitting value room_depth) context o view = IsToAdd o value
FitsPhase (Phase.Changed bucket done) context o view = HasPerformed context o view done

-- It changes no size. Its walk is one to its key, and stands; and what it is told fits what the walk has found.
pub record IsWalking (context : WalkContext) (o : WalkingFields) (view : View) : Type 0 where
  pub alone : size_key_of o.request ≡ None
  pub target : (o.walk.key, o.walk.mode) ≡ target_of o.request
  pub stands : IsStanding context o.walk view
  pub fits : FitsPhase o.walk.phase context o view

-- What is to be taken back is there: a walk to its key finds a record, or none, as the inverse needs it, and the
-- transaction's own ghost where that is to be revived.
pub record IsThere (context : WalkContext) (walk : WalkFields) (view : View) (inverse : Option RecChange)
    (found : Option ℕ) : Type 0 where
  pub fits : CanChange inverse found
  pub ghost : inverse ≡ Some Revive → HasOwnGhost context.tx walk view

abbrev pub CanTakeBackOne : WalkContext → (ℕ → Option Page) → Request → Type 0
CanTakeBackOne context clean (Do op) = Unit {0}
CanTakeBackOne context clean (TakeBack done) =
    (walk : WalkFields) (view : View) (bucket depth : ℕ) (found : Option ℕ)
    → walk.key ≡ (target_of (TakeBack done)).0 → walk.phase ≡ Phase.AtBucket bucket depth found
    → IsAtBucket context walk view bucket depth found → Agrees view.seen clean
    → IsThere context walk view (inverse_of done) found

-- What a step of it asks: its walk may take a step, it stands, and what it is to take back is there.
pub record MayWalkOn (context : WalkContext) (m : LocalState) (o : WalkingFields) : Type 0 where
  pub walks : MayWalk context m o.walk
  pub operates : IsWalking context o (view_of m)
  pub back : CanTakeBackOne context walks.file.clean o.request

-- how many steps are left of the pass, its end among them, and those aside that wait
abbrev pub steps_of_walk : ℕ → WalkFields → View → ℕ
steps_of_walk root walk view = steps_to_change root walk view + 1
