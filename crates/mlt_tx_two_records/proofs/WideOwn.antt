-- What a wide pass does at the bucket of its own key
use Rattle.std.proofs.Common.{◌≡◌, ℕ, Option, None, Some, refl, sym, ap, subst, ◌∙◌, inl, inr}
use Rattle.mlt_tx_two_records.proofs.Names.{Refusal, ObjReply, RecChange, Add, Request, decision, target_of, LocalState, Leaves, IsRolledBack, view_of, HasNoRoom, Makes, MayChange, NeedsSplit, TellsOfAddition, page_of, IsUnderWay, HasFound, IsSameWalk, WalkContext, WalkFields, one_key, WalkAnswer, Change, Pass, Phase, TwoRecordAnswer, WideStage, HasJustPut, MayActOnOwn, MayWalkToOwn, TellsAtOwn, HasKeys, Performs, HasToldPresent, IsGoingToOwn, IsWideTo, PutsOwn, PutsThen}
use Rattle.mlt_hash.specs.Changes.{IsAtAbsent}
use Rattle.mlt_tx_two_records.{specs.AtWideBuckets.IsToSplit, proofs.WideDeciding.own_change, proofs.WideDeciding.own_present, proofs.WideTurns.walks_on}

-- ---- a walk of a wide pass after a step or a change

pub not_first : (walk : WalkFields) → walk.pass ≡ Pass.Wide → walk.pass ≡ Pass.First → ⊥
not_first walk wide first = let both : Pass.Wide ≡ Pass.First = sym wide ∙ first in cc

pub not_narrow : (walk : WalkFields) → walk.pass ≡ Pass.Wide → walk.pass ≡ Pass.Narrow → ⊥
not_narrow walk wide narrow = let both : Pass.Wide ≡ Pass.Narrow = sym wide ∙ narrow in cc

pub still_wide : (before after : WalkFields) (key : ℕ) → IsWideTo before key → IsSameWalk before after → IsWideTo after key
still_wide before after key is same = record { key_is = same.key ∙ is.key_is; wide = same.pass ∙ is.wide; mode = same.mode ∙ is.mode }

pub same_keys : (request : Request) (before after : WalkFields) (size : ℕ) → HasKeys request before.key size → IsSameWalk before after → HasKeys request after.key size
same_keys request before after size keys same = subst (λ (k : ℕ). HasKeys request k size) (sym same.key) keys

-- where it is, and what it has found
pub at_bucket : (p : Phase) (found : Option ℕ) → HasFound p found → (bucket : ℕ) × (depth : ℕ) × (p ≡ Phase.AtBucket bucket depth found)
at_bucket (Phase.AtBucket bucket depth f) found is = (bucket, depth, ap (Phase.AtBucket bucket depth) is)
at_bucket other found is = absurd is

pub absent_at : (p : Phase) (found : Option ℕ) → HasFound p found → found ≡ None → IsAtAbsent p × HasFound p None
absent_at (Phase.AtBucket bucket depth f) found is none = (is ∙ none, is ∙ none)
absent_at other found is none = absurd is

module _ (context : WalkContext) (m : LocalState) (request : Request) (walk : WalkFields) (found : Option ℕ) (ready : MayActOnOwn context m request walk found) where
  -- **It may put the record,**
  pub may_put : MayChange (one_key context) m walk
  may_put = record { walks = ready.may.walks; exclusive = ready.may.to_key.mode }

  -- **where it has found none.**
  pub absent : (reply : ObjReply) (decided : RecChange) → decision request found ≡ (reply, Some decided) → IsAtAbsent walk.phase × HasFound walk.phase None
  absent reply decided is = absent_at walk.phase found ready.at_bucket (own_change request found reply decided ready.may.adds is).0

  -- what is put where none was found
  pub puts_own : (reply : ObjReply) (value : ℕ) → decision request found ≡ (reply, Some (Add value)) → PutsOwn request reply value
  puts_own reply value is = subst (λ (f : Option ℕ). decision request f ≡ (reply, Some (Add value))) (own_change request found reply (Add value) ready.may.adds is).0 is

  -- **Where it has found one, it is told so, and all else stays.**
  pub told_present : (reply : ObjReply) → decision request found ≡ (reply, None) → HasToldPresent context request walk reply (view_of m)
  told_present reply is =
      let present = own_present request found reply ready.may.adds is in
      let place = at_bucket walk.phase found ready.at_bucket in
      record {
        adds = ready.may.adds;
        size = ready.may.size;
        keys = ready.may.keys;
        to_key = ready.may.to_key;
        bucket = place.0;
        depth = place.1;
        value = present.0;
        at_bucket = place.2 ∙ ap (Phase.AtBucket place.0 place.1) present.1;
        stands = ready.may.walks.stands;
        decided = subst (λ (f : Option ℕ). decision request f ≡ (reply, None)) present.1 is;
        resized = present.2;
      }

  module _ (new : LocalState) (after : WalkFields) where
    may_walk : Leaves m new → (done : Change) → Makes (one_key context) new walk after done → MayWalkToOwn context new request after
    may_walk leaves done makes = record {
      adds = ready.may.adds;
      size = ready.may.size;
      keys = same_keys request walk after ready.may.size ready.may.keys makes.same;
      to_key = still_wide walk after (target_of request).0 ready.may.to_key makes.same;
      walks = walks_on (one_key context) m new walk after ready.may.walks leaves makes.stands;
    }

    has_put : Leaves m new → (reply : ObjReply) (value : ℕ) → decision request found ≡ (reply, Some (Add value)) → (done : Change) → Makes (one_key context) new walk after done → Performs (Add value) None done → HasJustPut context new request after
    has_put leaves reply value is done makes performs = record {
      may = may_walk leaves done makes;
      bucket = page_of walk.phase;
      done = done;
      phase = makes.phase;
      reply = reply;
      value = value;
      decided = puts_own reply value is;
      performs = performs;
    }

    -- **It has put the record,**
    pub just_put : Leaves m new → (reply : ObjReply) (value : ℕ) → decision request found ≡ (reply, Some (Add value)) → TellsOfAddition (one_key context) new walk after value WalkAnswer.Changed → HasJustPut context new request after
    just_put leaves reply value is (inl makes) = has_put leaves reply value is (Change.Revive value) makes (inr refl)
    just_put leaves reply value is (inr makes) = has_put leaves reply value is (Change.Put value) makes (inl refl)

    -- **or is to split the bucket,**
    pub is_to_split : new ≡ m → (reply : ObjReply) (value : ℕ) → decision request found ≡ (reply, Some (Add value)) → NeedsSplit (one_key context) new walk after value
        → IsToSplit (one_key context) m new walk after × IsGoingToOwn context request after (view_of new)
    is_to_split stays reply value is needs =
        let adding = needs.later (not_first walk ready.may.to_key.wide) in (
          record { stays = stays; absent = (absent reply (Add value) is).1; value = value; needs = needs },
          record {
            adds = ready.may.adds;
            size = ready.may.size;
            keys = same_keys request walk after ready.may.size ready.may.keys needs.same;
            to_key = still_wide walk after (target_of request).0 ready.may.to_key needs.same;
            under_way = subst IsUnderWay (sym adding.1) tt;
            stands = needs.stands;
            puts = subst (λ (p : Phase). PutsThen p (λ v. (r : ObjReply) × PutsOwn request r v)) (sym adding.1) (reply, puts_own reply value is);
          },
        )

    -- **or there is no room at any depth.**
    pub no_room : (back : LocalState) → new ≡ m → (reply : ObjReply) (value : ℕ) → decision request found ≡ (reply, Some (Add value)) → (reason : Refusal) → TellsOfAddition (one_key context) new walk after value (WalkAnswer.Refused reason) → IsRolledBack m back
        → TellsAtOwn context m back request walk WideStage.Own after (TwoRecordAnswer.Refused reason)
    no_room back stays reply value is Refusal.NoRoom none rolled = (rolled, record { absent = (absent reply (Add value) is).1; after = after; none = subst (λ (n : LocalState). HasNoRoom (one_key context) n walk after) stays none })
    no_room back stays reply value is other lacks rolled = absurd (lacks.1 refl)
