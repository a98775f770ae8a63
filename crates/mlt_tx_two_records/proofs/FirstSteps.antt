-- The steps of a first pass, up to its last one
use Rattle.std.proofs.Common.{◌≡◌, ℕ, ◌≤◌, Option, None, Some, refl, sym, ap, subst, ◌∙◌, inr, arith}
use Rattle.std.specs.FinMap as map
use Rattle.mlt_tx_two_records.proofs.Names.{ObjReply, Request, CanChange, IsPossible, decision, size_decision, target_of, page_count, look_up, Agrees, LocalState, Leaves, LocksAtMost, TakesTurn, view_of, step_keeps_tx, lock_and_write_touch, step_turns, agrees, WriteFields, IsFound, PairFields, later_page, IsThere, found_of, Descent, both_there, holds_read, WalkContext, First, MayActOnBoth, Writes, HasGhostOn, MayGoOn, HasKeys, HasToldFirst, OwesOne}
use Rattle.mlt_hash_access.{specs.PageSteps.WritesHeldSlot, proofs.Views.write_writes}
use Rattle.mlt_hash_pair.specs.{Changes.HoldsOn, Pairs.least_steps, Pairs.mode_next, Pairs.most_steps, Steps.GoesOn, Steps.HasFound, Steps.TellsOfStep, declared.answer.PairAnswer.PairAnswer}
use Rattle.mlt_tx_two_records.{specs.declared.first.FirstAnswer.FirstAnswer, specs.AtBuckets.TellsAtBuckets, specs.FirstPass.TellsOfFirst, specs.FirstPass.WasLast, proofs.Asking.revives_whatever, proofs.FirstChanges.owed_made, proofs.FirstChanges.told_both}

-- few pages are held where a pair's are
few_pages : (old new : LocalState) → new.running.tx ≡ old.running.tx → map.len (view_of new).modes ≤ 5 → page_count new.locks old.running.tx ≤ 300
few_pages old new tx few = subst (λ (t : ℕ). page_count new.locks t ≤ 300) tx (let all : page_count new.locks new.running.tx ≤ 5 = few in omega (arith, all))

-- a way at its bucket, and what it found
there_found : (at : Descent) (value : Option ℕ) → HasFound at value → IsThere at × (found_of at ≡ value)
there_found (Descent.AtBucket dir bucket found) value is = (tt, is)
there_found Descent.Start value is = absurd is
there_found (Descent.Headed place dir row) value is = absurd is
there_found (Descent.Placed dir bucket) value is = absurd is

none_left : (left right : Descent) → IsThere left → IsThere right → (least_steps left right ≡ 0) × (most_steps left right ≡ 0)
none_left (Descent.AtBucket dir bucket found) (Descent.AtBucket dir' bucket' found') there there' = (refl, refl)
none_left (Descent.AtBucket dir bucket found) Descent.Start there there' = absurd there'
none_left (Descent.AtBucket dir bucket found) (Descent.Headed place' dir' row') there there' = absurd there'
none_left (Descent.AtBucket dir bucket found) (Descent.Placed dir' bucket') there there' = absurd there'
none_left Descent.Start right there there' = absurd there
none_left (Descent.Headed place dir row) right there there' = absurd there
none_left (Descent.Placed dir bucket) right there there' = absurd there

module _ (context : WalkContext) (old new : LocalState) (request : Request) (before after : PairFields) (may : MayGoOn context old request (First before)) (leaves : Leaves old new) where
  same_tx : new.running.tx ≡ old.running.tx
  same_tx = step_keeps_tx old new leaves.touches

  keys_still : GoesOn context.bits context.root old new before after → HasKeys request after.left after.right
  keys_still goes = record {
    own_is = goes.left_key ∙ may.stands.keys.own_is;
    size_is = may.stands.keys.size_is ∙ ap Some (sym goes.right_key);
    apart = λ same. may.stands.keys.apart (sym goes.left_key ∙ same ∙ goes.right_key);
  }

  turn_of : GoesOn context.bits context.root old new before after → TakesTurn old new
  turn_of goes = step_turns old new leaves.touches (few_pages old new same_tx (holds_read context.bits context.root after (view_of new) goes.finding).few)

  -- **It goes on to both buckets,**
  pub first_goes : TellsOfStep context.bits context.root old new before after PairAnswer.Going → TellsOfFirst context old new request before after FirstAnswer.Going
  first_goes tells = (
    turn_of tells.0,
    record { least = tells.0.least; most = tells.0.most },
    record { keys = keys_still tells.0; under_way = tells.1; finding = tells.0.finding },
  )

  -- **or has found both keys.**
  module _ (own size : Option ℕ) (tells : TellsOfStep context.bits context.root old new before after (PairAnswer.Found own size)) where
    there : IsFound after
    there = ((there_found after.left_descent own tells.1).0, (there_found after.right_descent size tells.2).0)

    agree : Agrees (view_of new).seen may.file.clean
    agree = agrees new may.file.clean leaves.may (leaves.clean may.file.clean may.file.is_clean)

    keys : HasKeys request after.left after.right
    keys = keys_still tells.0

    values : (own ≡ look_up context.bits may.file.clean context.root (target_of request).0) × (size ≡ look_up context.bits may.file.clean context.root after.right)
    values =
        let both = both_there context.bits context.root after (view_of new) may.file.clean there (holds_read context.bits context.root after (view_of new) tells.0.finding) agree in (
          sym (there_found after.left_descent own tells.1).1 ∙ both.0 ∙ ap (look_up context.bits may.file.clean context.root) keys.own_is,
          sym (there_found after.right_descent size tells.2).1 ∙ both.1,
        )

    pub may_act : MayActOnBoth context new request after own size
    may_act = record {
      bounded = may.bounded;
      may = leaves.may;
      file = record { clean = may.file.clean; is_clean = leaves.clean may.file.clean may.file.is_clean; form = may.file.form };
      keys = keys;
      finding = tells.0.finding;
      found = there;
      own_is = (there_found after.left_descent own tells.1).1;
      size_is = (there_found after.right_descent size tells.2).1;
      possible = subst (IsPossible request) (sym values.0) may.can.own;
      fits = subst (λ (s : Option ℕ). CanChange (size_decision request (decision request own).0 s) s) (sym values.1)
          (subst (λ (o : Option ℕ). CanChange (size_decision request (decision request o).0 (look_up context.bits may.file.clean context.root after.right)) (look_up context.bits may.file.clean context.root after.right)) (sym values.0) (may.can.size after.right keys.size_is));
      ghost = λ revives. subst (HasGhostOn context may.file.clean) (sym keys.own_is) (may.can.ghost (revives_whatever request after.right own keys.size_is revives));
    }

    last : WasLast before
    last = let none = none_left after.left_descent after.right_descent there.0 there.1 in let least = tells.0.least in let most = tells.0.most in record { least = omega (arith, none, least); most = omega (arith, none, most) }

    module _ (then_ : LocalState) (end : PairFields) where
      turn_with : Writes new then_ (later_page after) → map.len (view_of then_).modes ≤ 5 → TakesTurn old then_
      turn_with writes few =
          let locks : LocksAtMost old new (later_page after) = subst (LocksAtMost old new) tells.3 (inr (mode_next before, tells.0.locks)) in
          step_turns old then_ (lock_and_write_touch old new then_ (later_page after) locks writes.writes) (few_pages old then_ (step_keeps_tx new then_ writes.leaves.touches ∙ same_tx) few)

      -- **What it does then is what its step tells.**
      pub found_tells : (told : FirstAnswer) → TellsAtBuckets context new then_ request after end told → TellsOfFirst context old then_ request before end told
      found_tells (FirstAnswer.OneLeft reply) at_buckets = (turn_with at_buckets.0 at_buckets.1.changed.holding.few, last, at_buckets.1)
      found_tells (FirstAnswer.Told reply) at_buckets = (turn_with at_buckets.0 at_buckets.1.holding.few, last, at_buckets.1)
      found_tells FirstAnswer.Full at_buckets = record {
        back = record { mid = new; turn = turn_of tells.0; back = at_buckets.back };
        start = at_buckets.start;
        adds = at_buckets.adds;
        last = last;
        pair = after;
        keys = keys;
        found = there;
        finding = tells.0.finding;
        reply = at_buckets.reply;
        asks = at_buckets.asks;
        full = at_buckets.full;
      }
      found_tells FirstAnswer.Going at_buckets = absurd at_buckets
      found_tells (FirstAnswer.Waiting page by) at_buckets = absurd at_buckets

-- **The last step of a first pass writes what is owed, and tells the reply.**
pub owing_tells : (context : WalkContext) (old new : LocalState) (request : Request) (before after : PairFields) (reply : ObjReply) → OwesOne context request before reply (view_of old) → Leaves old new
    → ((write : WriteFields) → before.owed ≡ Some write → WritesHeldSlot old new write.number write.at write.slot) → HoldsOn before (view_of old) (view_of new) → after ≡ record before { owed = None }
    → TakesTurn old new × HasToldFirst context request after reply (view_of new)
owing_tells context old new request before after reply owes leaves writes holds is =
    let holding = holds context.bits context.root owes.changed.holding in
    let both = owed_made context request before reply (view_of old) (view_of new) owes (λ bucket reads. write_writes old new owes.write.number _ (writes owes.write owes.owed bucket reads)) in
    let told : HasToldFirst context request (record before { owed = None }) reply (view_of new) = told_both context request (record before { owed = None }) reply (view_of new) owes.keys owes.changed.found holding
    (λ q ne ne'. both.size.writes.others q ne' ∙ both.own.writes.others q ne ∙ both.unwritten q) both in (
      step_turns old new leaves.touches (few_pages old new (step_keeps_tx old new leaves.touches) holding.few),
      subst (λ p. HasToldFirst context request p reply (view_of new)) (sym is) told,
    )
