-- What a wide pass does at the bucket of the size's key, over what it wrote for the own one
use Rattle.std.proofs.Common.{◌≡◌, ℕ, None, Option, Some, refl, sym, ap, subst, ◌∙◌, inr}
use Rattle.mlt_tx_two_records.proofs.Names.{Refusal, Page, ObjReply, RecChange, Add, Plus, Request, decision, size_decision, target_of, FilePages, look_up, Agrees, LocalState, Leaves, TouchesOnePage, IsRolledBack, View, rebased, view_of, written_stays, HasNoRoom, MayChange, NeedsSplit, page_of, IsUnderWay, HasFound, IsSameWalk, WalkContext, Before, HasRead, IsChanged, Stands, WalkFields, context_after, WalkAnswer, Phase, read_of, found_still, TwoRecordAnswer, MayActOnSize, Raises, TellsAtSize, TellsOfRaise, HasKeys, HasPutOwn, HasToldBoth, IsWideTo, PutsSize, PutsThen}
use Rattle.mlt_hash_access.{specs.LocalStates.MayStep, proofs.OwnSteps.own_step_sees_more}
use Rattle.mlt_hash.{specs.Changes.WritesIfChanged, proofs.Laws.found_there, proofs.Stood.still_stood}
use Rattle.mlt_tx_two_records.{specs.AtWideBuckets.IsMade, specs.AtWideBuckets.OfAddition, proofs.WideDeciding.raises_size, proofs.WideOwn.absent_at, proofs.WideOwn.not_first, proofs.WideTurns.agrees_after, proofs.WideTurns.clean_agrees, proofs.WideTurns.clean_over}

-- **What was put is put still after a step.**
abbrev pub put_still : (context : WalkContext) (request : Request) (since : Before) (old new : LocalState) → MayStep old → TouchesOnePage old new → HasPutOwn context request (view_of old) since → HasPutOwn context request (view_of new) since
put_still context request since old new may touches put = record {
  walk = put.walk;
  to_key = put.to_key;
  then_view = put.then_view;
  bucket = put.bucket;
  done = put.done;
  phase = put.phase;
  changed = put.changed;
  reply = put.reply;
  value = put.value;
  decided = put.decided;
  performs = put.performs;
  since_is = put.since_is;
  seen = λ q p sees. own_step_sees_more old new q p may touches (put.seen q p sees);
  written = written_stays since.written old new may touches put.written;
  stood = still_stood since.written context.tx (view_of old) (view_of new) put.stood (λ q p sees. own_step_sees_more old new q p may touches sees);
}

-- the keys, and the pass
pub size_keys : (request : Request) (before after : WalkFields) → HasKeys request (target_of request).0 before.key → IsSameWalk before after → HasKeys request (target_of request).0 after.key
size_keys request before after keys same = subst (λ (k : ℕ). HasKeys request (target_of request).0 k) (sym same.key) keys

pub size_wide : (before after : WalkFields) → IsWideTo before before.key → IsSameWalk before after → IsWideTo after after.key
size_wide before after is same = record { key_is = refl; wide = same.pass ∙ is.wide; mode = same.mode ∙ is.mode }

-- what the bucket had is what the clean pages have
pub found_clean : (phase : Phase) (context : WalkContext) (walk : WalkFields) (view : View) (found : Option ℕ) (clean : ℕ → Option Page) → HasFound phase found → Stands phase context walk view → Agrees view.seen clean → look_up context.bits clean context.root walk.key ≡ found
found_clean (Phase.AtBucket bucket depth f) context walk view found clean is stands agree = found_there context walk view bucket depth f clean stands agree ∙ is
found_clean other context walk view found clean is stands agree = absurd is

-- what is told to be raised was to be added, where nothing was found
added_at : (raise : RecChange) (Is : ℕ → Type 0) → OfAddition raise Is → (value : ℕ) × (raise ≡ Add value) × Is value
added_at (Add value) Is of = (value, refl, of)
added_at other Is of = absurd of

found_none : (raise : RecChange) (found : Option ℕ) (value : ℕ) → Raises found raise → raise ≡ Add value → found ≡ None
found_none (Add v) None value raises is = refl
found_none (Add v) (Some w) value raises is = absurd raises
found_none (Plus n) found value raises is = absurd (let both : Plus n ≡ Add value = is in cc)
found_none other None value raises is = absurd raises
found_none other (Some w) value raises is = absurd raises

module _ (context : WalkContext) (m : LocalState) (request : Request) (walk : WalkFields) (found : Option ℕ) (since : Before) (ready : MayActOnSize context m request walk found since) (reply : ObjReply) (told_is : (decision request None).0 ≡ reply) where
  abbrev over : WalkContext
  over = context_after since context

  -- **It may raise the size.**
  pub may_raise : MayChange over m walk
  may_raise = record { walks = ready.may.walks; exclusive = ready.may.to_key.mode }

  -- the reply is that of the own record
  reply_is : reply ≡ ready.may.put.reply
  reply_is = sym told_is ∙ ap (λ (r : ObjReply × Option RecChange). r.0) ready.may.put.decided

  decided : decision request None ≡ (reply, Some (Add ready.may.put.value))
  decided = ready.may.put.decided ∙ ap (λ (r : ObjReply). (r, Some (Add ready.may.put.value))) (sym reply_is)

  module _ (raise : RecChange) (is : size_decision request reply found ≡ Some raise) where
    pub raises_it : Raises found raise
    raises_it = raises_size request reply ready.may.put.value found raise ready.may.adds decided is

    -- what is put where none was found
    puts_size : (value : ℕ) → raise ≡ Add value → PutsSize request ready.may.put.reply value
    puts_size value added =
        let none = found_none raise found value raises_it added in
        subst (λ (r : ObjReply). size_decision request r None ≡ Some (Add value)) reply_is (subst (λ (f : Option ℕ). size_decision request reply f ≡ Some (Add value)) none (is ∙ ap Some added))

    absent : (value : ℕ) → raise ≡ Add value → HasFound walk.phase None
    absent value added = (absent_at walk.phase found ready.at_bucket (found_none raise found value raises_it added)).1

    -- **It is raised,**
    module _ (new : LocalState) (after : WalkFields) (leaves : Leaves m new) (made : IsMade over new walk after raise found) where
      abbrev clean : FilePages
      clean = clean_over over m walk ready.may.walks

      was : look_up context.bits clean context.root walk.key ≡ found
      was = found_clean walk.phase over walk (rebased since.written (view_of m)) found clean ready.at_bucket ready.may.walks.stands (clean_agrees over m walk ready.may.walks)

      changed : IsChanged over after (rebased since.written (view_of new)) (page_of walk.phase) made.done
      changed = subst (λ (p : Phase). Stands p over after (rebased since.written (view_of new))) made.makes.phase made.makes.stands

      read : HasRead over after.key (rebased since.written (view_of new)) found
      read =
          let still = found_still over after.key (rebased since.written (view_of new)) changed.found clean changed.read (agrees_after over m new walk ready.may.walks leaves) in
          read_of over after.key (rebased since.written (view_of new)) changed.found found (still ∙ ap (λ key. look_up context.bits clean context.root key) made.makes.same.key ∙ was) changed.read

      pub told_both : HasToldBoth context request after reply (view_of new)
      told_both = record {
        adds = ready.may.adds;
        since = since;
        put = put_still context request since m new ready.may.walks.may leaves.touches ready.may.put;
        reply_is = reply_is;
        keys = size_keys request walk after ready.may.keys made.makes.same;
        to_key = size_wide walk after ready.may.to_key made.makes.same;
        bucket = page_of walk.phase;
        done = made.done;
        phase = made.makes.phase;
        stands = made.makes.stands;
        found = found;
        read = read;
        resize = raise;
        resized = is;
        performs = made.performs;
      }

      pub raised : WritesIfChanged m new (page_of walk.phase) WalkAnswer.Changed → TellsAtSize context since m new request walk after (TwoRecordAnswer.Told reply)
      raised writes = (record { leaves = leaves; writes = inr writes }, told_both)

    -- **is to be split for,**
    splits_there : (after : WalkFields) (value : ℕ) → raise ≡ Add value → NeedsSplit over m walk after value → TellsAtSize context since m m request walk after TwoRecordAnswer.Going
    splits_there after value added needs =
        let adding = needs.later (not_first walk ready.may.to_key.wide) in (
          record { stays = refl {a = m}; absent = absent value added; value = value; needs = needs },
          record {
            adds = ready.may.adds;
            since = since;
            put = ready.may.put;
            keys = size_keys request walk after ready.may.keys needs.same;
            to_key = size_wide walk after ready.may.to_key needs.same;
            under_way = subst IsUnderWay (sym adding.1) tt;
            stands = needs.stands;
            puts = subst (λ (p : Phase). PutsThen p (PutsSize request ready.may.put.reply)) (sym adding.1) (puts_size value added);
          },
        )

    pub splits_for_it : (new : LocalState) (after : WalkFields) → new ≡ m → TellsOfRaise over new walk after raise found WalkAnswer.NeedSplit → TellsAtSize context since m new request walk after TwoRecordAnswer.Going
    splits_for_it new after stays tells =
        let added = added_at raise (λ value. NeedsSplit over new walk after value) tells in
        subst (λ (n : LocalState). TellsAtSize context since m n request walk after TwoRecordAnswer.Going) (sym stays)
        (splits_there after added.0 added.1 (subst (λ (n : LocalState). NeedsSplit over n walk after added.0) stays added.2))

    -- **or is refused.**
    pub refused_there : (new back : LocalState) (after last : WalkFields) (reason : Refusal) → new ≡ m → TellsOfRaise over new walk after raise found (WalkAnswer.Refused reason) → IsRolledBack m back → TellsAtSize context since m back request walk last (TwoRecordAnswer.Refused reason)
    refused_there new back after last Refusal.NoRoom stays tells rolled =
        let added = added_at raise (λ value. HasNoRoom over new walk after) tells in
        (rolled, record { absent = absent added.0 added.1; after = after; none = subst (λ (n : LocalState). HasNoRoom over n walk after) stays added.2 })
    refused_there new back after last Refusal.OutOfMemory stays tells rolled = (rolled, tt)
    refused_there new back after last other stays tells rolled = absurd (let only : other ≡ Refusal.OutOfMemory = tells in cc)
