-- What an operation leaves at its bucket
use Rattle.std.proofs.Common.{◌≡◌, ℕ, ◌+◌, Option, None, Some, refl, sym, ap, subst, ◌∙◌, inl, inr}
use Rattle.mlt_tx_operation.proofs.Names.{Mode, Exclusive, Page, ObjReply, RecChange, Add, Revive, CanChange, decision, size_key_of, target_of, Agrees, LocalState, Leaves, IsRolledBack, View, view_of, agrees, WalkContext, HasRead, IsChanged, Stands, WalkFields, one_key, MayChange, page_of, next_of, HasFound, IsSameWalk, steps_to_bucket, steps_to_put_at, Change, Phase, WalkAnswer, Pass, read_of, Refusal, StepAnswer, Request, Do, TakeBack, HasToRestart, Finishes, IsThereFor, MayDecide, TellsAtBucket, FitsPhase, HasPerformed, IsToAdd, WalkingFields, AsksToAdd, TellsOfDecision}
use Rattle.mlt_hash_form.specs.File.{look_up}
use Rattle.mlt_hash_access.proofs.Leaving.{leaves_it}
use Rattle.mlt_hash.specs.Changes.{HasNoRoom, HasOwnGhost, MustWiden, NeedsSplit, WritesIfChanged}
use Rattle.mlt_hash.proofs.Standings.{found_still}
use Rattle.mlt_tx_operation.{specs.AtBucket.BeginsAgain, specs.AtBucket.FindsNoRoom, specs.AtBucket.SplitsInPass, specs.Walking.IsTold, proofs.Deciding.changes_exclusively, proofs.Deciding.never_revives}
use Rattle.mlt_tx_two_records.{specs.AtWideBuckets.IsMade, specs.AtWideBuckets.OfAddition, proofs.RollingBack.starts_again, proofs.WideOwn.absent_at, proofs.WideSize.found_clean}

-- what was decided, with the change that it asks for
pub decided_change : (request : Request) (found : Option ℕ) (told : ObjReply × Option RecChange) (change : Option RecChange) → told ≡ decision request found → told.1 ≡ change → decision request found ≡ (told.0, change)
decided_change request found told change is asks = sym is ∙ ap (λ d. (told.0, d)) asks

-- what was decided on locks the bucket exclusively
target_exclusive : (request : Request) (found : Option ℕ) (reply : ObjReply) (change : RecChange) → decision request found ≡ (reply, Some change) → (target_of request).1 ≡ Exclusive
target_exclusive (Do op) found reply change is = changes_exclusively op found reply change is
target_exclusive (TakeBack done) found reply change is = refl

pub may_change : (context : WalkContext) (m : LocalState) (o : WalkingFields) (found : Option ℕ) (reply : ObjReply) (change : RecChange)
    → MayDecide (one_key context) m o found → decision o.request found ≡ (reply, Some change) → MayChange (one_key context) m o.walk
may_change context m o found reply change may is = record {
  walks = may.walks;
  exclusive = ap (λ (t : ℕ × Mode). t.1) may.target ∙ target_exclusive o.request found reply change is;
}

-- the ghost that is to be revived is there
ghost_for : (request : Request) (context : WalkContext) (walk : WalkFields) (view : View) (found : Option ℕ) (reply : ObjReply)
    → IsThereFor request (one_key context) walk view found → decision request found ≡ (reply, Some Revive) → HasOwnGhost context.tx walk view
ghost_for (Do op) context walk view found reply there is = absurd (never_revives op found reply is)
ghost_for (TakeBack done) context walk view found reply there is = there.ghost (ap (λ (r : ObjReply × Option RecChange). r.1) is)

pub ghost_is_there : (context : WalkContext) (m : LocalState) (o : WalkingFields) (found : Option ℕ) (reply : ObjReply) (change : RecChange)
    → MayDecide (one_key context) m o found → decision o.request found ≡ (reply, Some change) → change ≡ Revive → HasOwnGhost context.tx o.walk (view_of m)
ghost_is_there context m o found reply change may is revives =
    ghost_for o.request (one_key context) o.walk (view_of m) found reply may.there (is ∙ ap (λ (c : RecChange). (reply, Some c)) revives)

-- at the bucket, the reply fits what was found, and no step but the end is left
fits_bucket : (phase : Phase) (context : WalkContext) (o : WalkingFields) (view : View) (found : Option ℕ) → HasFound phase found → IsTold o found → FitsPhase phase (one_key context) o view
fits_bucket (Phase.AtBucket bucket depth f) context o view found is told = subst (λ (g : Option ℕ). IsTold o g) (sym is) told
fits_bucket other context o view found is told = absurd is

last_at_bucket : (phase : Phase) (root : ℕ) (walk : WalkFields) (view : View) (found : Option ℕ) → HasFound phase found → steps_to_bucket phase + steps_to_put_at phase root walk view + 1 ≡ 1
last_at_bucket (Phase.AtBucket bucket depth f) root walk view found is = refl
last_at_bucket other root walk view found is = absurd is

-- **What asks for no change is told its reply, and all else stays.**
pub told_finishes : (context : WalkContext) (m : LocalState) (before after : WalkingFields) (found : Option ℕ) (reply : ObjReply)
    → MayDecide (one_key context) m before found → decision before.request found ≡ (reply, None)
    → after ≡ record before { reply = Some reply } → Finishes (one_key context) m m before after
told_finishes context m before after found reply may is same =
    let told : WalkingFields = record before { reply = Some reply } in
    let finishes : Finishes (one_key context) m m before told = record {
      leaves = leaves_it m m may.walks.may refl;
      writes = inl refl;
      request = refl;
      in_pass = refl;
      operates = record {
        alone = may.alone;
        target = may.target;
        stands = may.walks.stands;
        fits = fits_bucket before.walk.phase (one_key context) told (view_of m) found may.at_bucket (reply, refl, is);
      };
      last = last_at_bucket before.walk.phase context.root before.walk (view_of m) found may.at_bucket;
    } in
    subst (λ (o : WalkingFields). Finishes (one_key context) m m before o) (sym same) finishes

-- a changed walk has read what it found
changed_read : (context : WalkContext) (walk : WalkFields) (view : View) (bucket : ℕ) (done : Change) (found : Option ℕ) (clean : ℕ → Option Page)
    → IsChanged (one_key context) walk view bucket done → Agrees view.seen clean → look_up context.bits clean context.root walk.key ≡ found → HasRead (one_key context) walk.key view found
changed_read context walk view bucket done found clean changed agree is =
    read_of (one_key context) walk.key view changed.found found (found_still (one_key context) walk.key view changed.found clean changed.read agree ∙ is) changed.read

-- **What asks for a change is told its reply, with the change written.**
pub change_finishes : (context : WalkContext) (old new : LocalState) (before after : WalkingFields) (found : Option ℕ) (reply : ObjReply) (change : RecChange)
    → MayDecide (one_key context) old before found → decision before.request found ≡ (reply, Some change)
    → Leaves old new → WritesIfChanged old new (page_of before.walk.phase) WalkAnswer.Changed
    → IsMade (one_key context) new before.walk after.walk change found
    → after.request ≡ before.request → after.reply ≡ Some reply → Finishes (one_key context) old new before after
change_finishes context old new before after found reply change may is leaves writes made request told =
    let phase : Phase = Phase.Changed (page_of before.walk.phase) made.done in
    let clean = may.walks.file.clean in
    let agree_old : Agrees (view_of old).seen clean = agrees old clean may.walks.may may.walks.file.is_clean in
    let agree_new : Agrees (view_of new).seen clean = agrees new clean leaves.may (leaves.clean clean may.walks.file.is_clean) in
    let was : look_up context.bits clean context.root before.walk.key ≡ found = found_clean before.walk.phase (one_key context) before.walk (view_of old) found clean may.at_bucket may.walks.stands agree_old in
    let stays : look_up context.bits clean context.root after.walk.key ≡ found = ap (λ key. look_up context.bits clean context.root key) made.makes.same.key ∙ was in
    let changed : IsChanged (one_key context) after.walk (view_of new) (page_of before.walk.phase) made.done = subst (λ (p : Phase). Stands p (one_key context) after.walk (view_of new)) made.makes.phase made.makes.stands in
    let performed : HasPerformed (one_key context) after (view_of new) made.done = record {
      found = found;
      reply = reply;
      decided = change;
      read = changed_read (one_key context) after.walk (view_of new) (page_of before.walk.phase) made.done found clean changed agree_new stays;
      told = told;
      asked = ap (λ (r : Request). decision r found) request ∙ is;
      performs = made.performs;
    } in
    record {
      leaves = leaves;
      writes = inr writes;
      request = request;
      in_pass = made.makes.same.pass;
      operates = record {
        alone = ap size_key_of request ∙ may.alone;
        target = (λ i. (made.makes.same.key i, made.makes.same.mode i)) ∙ may.target ∙ ap target_of (sym request);
        stands = made.makes.stands;
        fits = subst (λ (p : Phase). FitsPhase p (one_key context) after (view_of new)) (sym made.makes.phase) performed;
      };
      last = ap (λ (p : Phase). steps_to_bucket p + steps_to_put_at p context.root after.walk (view_of new) + 1) made.makes.phase;
    }

-- nothing was found where a record is to be added
pub asks_to_add : (request : Request) (found : Option ℕ) (reply : ObjReply) (change : RecChange) (Is : ℕ → Type 0) → decision request found ≡ (reply, Some change)
    → CanChange (Some change) found → OfAddition change Is → (value : ℕ) × AsksToAdd request value
asks_to_add request found reply (Add value) Is is can of = (value, (reply, subst (λ (f : Option ℕ). decision request f ≡ (reply, Some (Add value))) can is))
asks_to_add request found reply other Is is can of = absurd of

pub absent_to_add : (context : WalkContext) (m : LocalState) (o : WalkingFields) (found : Option ℕ) (change : RecChange) (Is : ℕ → Type 0) → MayDecide (one_key context) m o found
    → CanChange (Some change) found → OfAddition change Is → HasFound o.walk.phase None
absent_to_add context m o found (Add value) Is may can of = (absent_at o.walk.phase found may.at_bucket can).1
absent_to_add context m o found other Is may can of = absurd of

-- an addition that lacks room is to be split for, in a later pass
splits_for : (context : WalkContext) (new : LocalState) (before after : WalkingFields) (change : RecChange) (found : Option ℕ) (reply : ObjReply)
    → MayDecide (one_key context) new before found → decision before.request found ≡ (reply, Some change) → CanChange (Some change) found
    → OfAddition change (λ value. NeedsSplit (one_key context) new before.walk after.walk value) → (after.walk.pass ≡ Pass.First → ⊥)
    → after.request ≡ before.request → after.reply ≡ before.reply → SplitsInPass (one_key context) new new before after
splits_for context new before after (Add value) found reply may is can needs not request same =
    let later : before.walk.pass ≡ Pass.First → ⊥ = λ first. not (needs.same.pass ∙ first) in
    let adding = needs.later later in
    let to_add : IsToAdd after value = (same ∙ may.untold, (reply, ap (λ (r : Request). decision r None) request ∙ subst (λ (f : Option ℕ). decision before.request f ≡ (reply, Some (Add value))) can is)) in
    record {
      stays = refl;
      request = request;
      in_pass = needs.same.pass;
      operates = record {
        alone = ap size_key_of request ∙ may.alone;
        target = (λ i. (needs.same.key i, needs.same.mode i)) ∙ may.target ∙ ap target_of (sym request);
        stands = needs.stands;
        fits = subst (λ (p : Phase). FitsPhase p (one_key context) after (view_of new)) (sym adding.1) to_add;
      };
      later = later;
      absent = (absent_at before.walk.phase found may.at_bucket can).1;
      value = value;
      needs = needs;
    }
splits_for context new before after other found reply may is can needs not request same = absurd needs

-- **A later pass whose bucket has no room is to split it.**
pub splits_in_pass : (context : WalkContext) (old new : LocalState) (before after : WalkingFields) (change : RecChange) (found : Option ℕ) (reply : ObjReply)
    → MayDecide (one_key context) old before found → decision before.request found ≡ (reply, Some change) → CanChange (Some change) found
    → new ≡ old → TellsOfDecision (one_key context) new before.walk after.walk change found WalkAnswer.NeedSplit → (after.walk.pass ≡ Pass.First → ⊥)
    → after.request ≡ before.request → after.reply ≡ before.reply → SplitsInPass (one_key context) old new before after
splits_in_pass context old new before after change found reply may is can stays tells not request same =
    let split : SplitsInPass (one_key context) old old before after = splits_for (one_key context) old before after change found reply may is can
    (subst (λ (m : LocalState). TellsOfDecision (one_key context) m before.walk after.walk change found WalkAnswer.NeedSplit) stays tells) not request same in
    subst (λ (m : LocalState). SplitsInPass (one_key context) old m before after) (sym stays) split

-- **A pass that is rolled back begins again.**
pub begins_again : (context : WalkContext) (old new : LocalState) (before after : WalkingFields) (found : Option ℕ) (full : WalkFields)
    → MayDecide (one_key context) old before found → HasFound before.walk.phase None → (value : ℕ) × AsksToAdd before.request value → IsRolledBack old new → HasToRestart (one_key context) old before.walk full → IsSameWalk before.walk full
    → after.walk ≡ record full { pass = next_of full.phase; phase = Phase.Start; split = None }
    → after.request ≡ before.request → after.reply ≡ before.reply → BeginsAgain (one_key context) old new before after
begins_again context old new before after found full may absent adds back restarts alike again request same =
    let key : after.walk.key ≡ before.walk.key = ap (λ (w : WalkFields). w.key) again ∙ alike.key in
    let mode : after.walk.mode ≡ before.walk.mode = ap (λ (w : WalkFields). w.mode) again ∙ alike.mode in
    let phase : after.walk.phase ≡ Phase.Start = ap (λ (w : WalkFields). w.phase) again in
    record {
      back = back;
      request = request;
      untold = (may.untold, same ∙ may.untold);
      operates = record {
        alone = ap size_key_of request ∙ may.alone;
        target = (λ i. (key i, mode i)) ∙ may.target ∙ ap target_of (sym request);
        stands = subst (λ (p : Phase). Stands p (one_key context) after.walk (view_of new)) (sym phase) (starts_again old new back, refl);
        fits = subst (λ (p : Phase). FitsPhase p (one_key context) after (view_of new)) (sym phase) (same ∙ may.untold);
      };
      absent = absent;
      adds = adds;
      full = full;
      restarts = restarts;
      again = again;
    }

-- which of a first pass, and of a narrow one, begins again
pub first_restarts : (context : WalkContext) (m : LocalState) (walk full : WalkFields) (change : RecChange)
    → OfAddition change (λ value. NeedsSplit (one_key context) m walk full value) → full.pass ≡ Pass.First → HasToRestart (one_key context) m walk full × IsSameWalk walk full
first_restarts context m walk full (Add value) needs first = (inl (sym needs.same.pass ∙ first, (value, needs)), needs.same)
first_restarts context m walk full other needs first = absurd needs

pub narrow_restarts : (context : WalkContext) (m : LocalState) (walk full : WalkFields) (change : RecChange)
    → OfAddition change (λ value. MustWiden (one_key context) m walk full) → HasToRestart (one_key context) m walk full × IsSameWalk walk full
narrow_restarts context m walk full (Add value) widen = (inr widen, widen.same)
narrow_restarts context m walk full other widen = absurd widen

-- **Where there is no room at all, all is rolled back.**
pub finds_no_room : (context : WalkContext) (old new : LocalState) (before : WalkingFields) (change : RecChange) (found : Option ℕ) (reply : ObjReply) (after : WalkFields)
    → MayDecide (one_key context) old before found → decision before.request found ≡ (reply, Some change) → CanChange (Some change) found → OfAddition change (λ value. HasNoRoom (one_key context) old before.walk after)
    → IsRolledBack old new → FindsNoRoom (one_key context) old new before
finds_no_room context old new before (Add value) found reply after may is can none back = record {
  back = back;
  later = none.later;
  absent = (absent_at before.walk.phase found may.at_bucket can).1;
  adds = (value, (reply, subst (λ (f : Option ℕ). decision before.request f ≡ (reply, Some (Add value))) can is));
  walk = after;
  none = none;
}
finds_no_room context old new before other found reply after may is can none back = absurd none

-- what is told where the walk's change is refused
pub refused_at_bucket : (context : WalkContext) (old mid new : LocalState) (before after : WalkingFields) (change : RecChange) (found : Option ℕ) (reply : ObjReply) (walk : WalkFields) (reason : Refusal)
    → MayDecide (one_key context) old before found → decision before.request found ≡ (reply, Some change) → CanChange (Some change) found → mid ≡ old
    → TellsOfDecision (one_key context) mid before.walk walk change found (WalkAnswer.Refused reason) → IsRolledBack old new → TellsAtBucket (one_key context) old new before after (StepAnswer.Refused reason)
refused_at_bucket context old mid new before after change found reply walk Refusal.NoRoom may is can stays tells back =
    finds_no_room (one_key context) old new before change found reply walk may is can (subst (λ (m : LocalState). TellsOfDecision (one_key context) m before.walk walk change found (WalkAnswer.Refused Refusal.NoRoom)) stays tells) back
refused_at_bucket context old mid new before after change found reply walk other may is can stays tells back = absurd tells
