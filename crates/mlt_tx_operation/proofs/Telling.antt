-- What an operation tells that waits, is refused, or has reached its bucket
use Rattle.std.proofs.Common.{◌≡◌, ℕ, ◌+◌, ◌↔◌, None, Option, refl, sym, ap, subst, ◌∙◌, inl, inr, arith}
use Rattle.mlt_tx_operation.proofs.Names.{Mode, Refusal, Page, size_key_of, target_of, Agrees, LocalState, Leaves, IsRolledBack, TakesTurn, View, view_of, agrees, WalkContext, Stands, WalkFields, one_key, page_of, TellsAt, HasFound, steps_to_bucket, WalkAnswer, Pass, Phase, put_on_way, StepAnswer, One, Request, Do, TakeBack, IsRefused, TellsOfStep, Waits, AsksToAdd, steps_to_change, one_step_turns, IsThereFor, MayDecide, TellsAtBucket, on_one, CanTakeBackOne, MayWalkOn, WalkingFields}
use Rattle.mlt_hash_access.specs.PageSteps.{HasNoPageLeft, LocksAtMost}
use Rattle.mlt_hash.specs.{Walks.IsAtBucket, Splitting.HasToMake, Steps.GoesOn}
use Rattle.mlt_tx_operation.{specs.Answers.CauseAtOne, proofs.Going.same_target}
use Rattle.mlt_tx_two_records.{specs.WalkSteps.ReachesBucket, proofs.WideTurns.lock_and_write_turn, proofs.WideTurns.walks_on}
use Rattle.mlt_tx_two_records.proofs.WideTelling.{IsWhy, found_by_path, reaches, refused as why_refused, waits as walk_waits, was_last}

-- **Where its walk waits, so does the operation.**
pub waits : (context : WalkContext) (old new : LocalState) (before after : WalkingFields) (page by : ℕ)
    → TellsAt before.walk.phase (one_key context) old new before.walk after.walk (WalkAnswer.Waiting page by) → after.request ≡ before.request → after.reply ≡ before.reply
    → Waits (one_key context) old new (on_one before) (on_one after) page by
waits context old new before after page by told request same =
    let walk = walk_waits (one_key context) old new before.walk after.walk page by told in
    record {
      mode = walk.mode;
      asks = walk.asks;
      lowest = walk.lowest;
      pages = walk.pages;
      stays = λ i. record { request = request i; reply = same i; access_path = One (walk.stays i) };
    }

-- what is to be taken back is there, at the bucket
there_at : (request : Request) (context : WalkContext) (clean : ℕ → Option Page) (walk : WalkFields) (view : View) (bucket depth : ℕ) (found : Option ℕ)
    → CanTakeBackOne (one_key context) clean request → walk.key ≡ (target_of request).0 → walk.phase ≡ Phase.AtBucket bucket depth found
    → IsAtBucket (one_key context) walk view bucket depth found → Agrees view.seen clean → IsThereFor request (one_key context) walk view found
there_at (Do op) context clean walk view bucket depth found back key phase here agree = tt
there_at (TakeBack done) context clean walk view bucket depth found back key phase here agree = back walk view bucket depth found key phase here agree

-- what the walk has found
found_at : (p : Phase) (context : WalkContext) (clean : ℕ → Option Page) (request : Request) (walk : WalkFields) (view : View) (found : Option ℕ)
    → walk.phase ≡ p → HasFound p found → Stands p (one_key context) walk view → CanTakeBackOne (one_key context) clean request → walk.key ≡ (target_of request).0 → Agrees view.seen clean
    → IsThereFor request (one_key context) walk view found
found_at (Phase.AtBucket bucket depth f) context clean request walk view found is same here back key agree =
    subst (λ (g : Option ℕ). IsThereFor request (one_key context) walk view g) same (there_at request (one_key context) clean walk view bucket depth f back key is here agree)
found_at other context clean request walk view found is same here back key agree = absurd same

-- **An operation that has reached its bucket may decide.**
pub may_decide : (context : WalkContext) (old mid : LocalState) (before at : WalkingFields) (found : Option ℕ) → MayWalkOn (one_key context) old before → Leaves old mid
    → TellsAt before.walk.phase (one_key context) old mid before.walk at.walk (WalkAnswer.Found found) → at.request ≡ before.request → at.reply ≡ None
    → MayDecide (one_key context) mid at found
may_decide context old mid before at found may leaves tells request untold =
    let path = found_by_path before.walk.phase (one_key context) old mid before.walk at.walk found tells in
    let target = same_target before at may.operates.target path.0.same request in
    let clean = may.walks.file.clean in
    record {
      walks = walks_on (one_key context) old mid before.walk at.walk may.walks leaves path.0.stands;
      alone = ap size_key_of request ∙ may.operates.alone;
      target = target;
      at_bucket = path.1;
      untold = untold;
      there = found_at at.walk.phase (one_key context) clean at.request at.walk (view_of mid) found refl path.1 path.0.stands (subst (CanTakeBackOne (one_key context) clean) (sym request) may.back) (ap (λ (t : ℕ × Mode). t.0) target) (agrees mid clean leaves.may (leaves.clean clean may.walks.file.is_clean));
    }

-- **What an operation tells at its bucket is what its step tells.**
pub found_tells : (context : WalkContext) (old mid new : LocalState) (before at after : WalkingFields) (found : Option ℕ) (told : StepAnswer) → MayWalkOn (one_key context) old before → Leaves old mid
    → LocksAtMost old mid (page_of at.walk.phase) → TellsAt before.walk.phase (one_key context) old mid before.walk at.walk (WalkAnswer.Found found) → at.request ≡ before.request → at.reply ≡ before.reply
    → TellsAtBucket (one_key context) mid new at after told → TellsOfStep (one_key context) old new (on_one before) (on_one after) told
found_tells context old mid new before at after found told may leaves locks tells request same at_bucket = by told at_bucket
  where
    path : GoesOn (one_key context) mid before.walk at.walk × HasFound at.walk.phase found
    path = found_by_path before.walk.phase (one_key context) old mid before.walk at.walk found tells

    turn : TakesTurn old mid
    turn = one_step_turns (one_key context) old mid before.walk may.walks leaves

    by : (told : StepAnswer) → TellsAtBucket (one_key context) mid new at after told → TellsOfStep (one_key context) old new (on_one before) (on_one after) told
    by StepAnswer.Going (inl finishes) =
        let was = was_last (one_key context) mid before.walk at.walk found path.0 path.1 in
        let put = put_on_way before.walk.phase context.root before.walk (view_of old) (omega (arith, was)) in
        let by_one : steps_to_change context.root after.walk (view_of new) + 1 ≡ steps_to_change context.root before.walk (view_of old) = omega (arith, was, put, finishes.last) in
        inl (record {
          turn = lock_and_write_turn (one_key context) old mid new before.walk (page_of at.walk.phase) may.walks locks finishes.writes;
          request = finishes.request ∙ request;
          operates = finishes.operates;
          in_first = λ first. finishes.in_pass ∙ path.0.same.pass ∙ first;
          fewer = omega (arith, by_one);
          how = record {
            in_pass = finishes.in_pass ∙ path.0.same.pass;
            goes = inl (record { nearer = omega (arith, finishes.last); by_one = by_one; down = inl (omega (arith, was)) });
          };
        })
    by StepAnswer.Going (inr (inl splits)) =
        inr (inl (record {
          turn = subst (λ (m : LocalState). TakesTurn old m) (sym splits.stays) turn;
          request = splits.request ∙ request;
          operates = splits.operates;
          later = λ first. splits.later (path.0.same.pass ∙ first);
          how = record {
            in_pass = splits.in_pass ∙ path.0.same.pass;
            splits = record {
              walk = at.walk;
              reaches = subst (λ (m : LocalState). ReachesBucket (one_key context) m before.walk at.walk) (sym splits.stays) (reaches (one_key context) mid before.walk at.walk path.0 splits.absent);
              value = splits.value;
              needs = splits.needs;
              at_bucket = ap steps_to_bucket (splits.needs.later splits.later).1;
            };
          };
        }))
    by StepAnswer.Going (inr (inr again)) =
        inr (inr (record {
          back = record { mid = mid; turn = turn; back = again.back };
          request = again.request ∙ request;
          untold = (sym same ∙ again.untold.0, again.untold.1);
          operates = again.operates;
          adds = (again.adds.0, subst (λ (r : Request). AsksToAdd r again.adds.0) request again.adds.1);
          how = record {
            walk = at.walk;
            reaches = reaches (one_key context) mid before.walk at.walk path.0 again.absent;
            full = again.full;
            restarts = again.restarts;
            again = again.again;
          };
        }))
    by (StepAnswer.Refused Refusal.NoRoom) none = record {
      back = record { mid = mid; turn = turn; back = none.back };
      later = λ first. none.later (path.0.same.pass ∙ first);
      cause = inl ((none.adds.0, subst (λ (r : Request). AsksToAdd r none.adds.0) request none.adds.1), record { walk = at.walk; after = none.walk; reaches = reaches (one_key context) mid before.walk at.walk path.0 none.absent; none = none.none });
    }
    by other never = absurd never

-- a walk that is refused on its way splits, in a later pass than the first
in_later : (p : Phase) (context : WalkContext) (old mid : LocalState) (walk after : WalkFields) (reason : Refusal) → Stands p (one_key context) walk (view_of old)
    → TellsAt p (one_key context) old mid walk after (WalkAnswer.Refused reason) → walk.pass ≡ Pass.First → ⊥
in_later (Phase.Adding value bucket depth unsplit) context old mid walk after reason stands told = stands.later
in_later (Phase.Splitting value depth) context old mid walk after reason stands told = stands.later
in_later other context old mid walk after reason stands told = absurd told

cause_of : (reason : Refusal) (context : WalkContext) (old mid : LocalState) (request : Request) (walk : WalkFields) → IsWhy reason (one_key context) old walk → CauseAtOne reason (one_key context) old mid request walk
cause_of Refusal.NoRoom context old mid request walk why = inr why
cause_of Refusal.OutOfMemory context old mid request walk why = why
cause_of other context old mid request walk why = absurd why

-- **Where its walk is refused, all is rolled back.**
pub refused : (context : WalkContext) (old mid new : LocalState) (before : WalkingFields) (after : WalkFields) (reason : Refusal) → MayWalkOn (one_key context) old before → Leaves old mid
    → TellsAt before.walk.phase (one_key context) old mid before.walk after (WalkAnswer.Refused reason)
    → ((WalkAnswer.Refused reason ≡ WalkAnswer.Refused Refusal.NoRoom) ↔ (HasToMake before.walk.phase (one_key context) old before.walk × HasNoPageLeft old.store))
    → IsRolledBack mid new → IsRefused (one_key context) old new (on_one before) reason
refused context old mid new before after reason may leaves told exact back = record {
  back = record { mid = mid; turn = one_step_turns (one_key context) old mid before.walk may.walks leaves; back = back };
  later = in_later before.walk.phase (one_key context) old mid before.walk after reason may.walks.stands told;
  cause = cause_of reason (one_key context) old mid before.request before.walk (why_refused (one_key context) old mid before.walk after reason told exact);
}
