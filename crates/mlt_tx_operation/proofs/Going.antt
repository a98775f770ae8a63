-- How an operation goes on within its pass
use Rattle.std.proofs.Common.{◌≡◌, ◌+◌, ◌-◌, false, None, Option, Some, refl, sym, ap, subst, ◌∙◌, inl, inr, arith}
use Rattle.mlt_tx_operation.proofs.Names.{ObjReply, RecChange, Add, decision, size_key_of, target_of, LocalState, Leaves, View, view_of, WalkContext, HasRead, IsChanged, Stands, one_key, page_of, IsUnderWay, TellsAt, IsSameWalk, steps_to_bucket, bucket_depth, directory_depth, steps_to_put_at, WalkAnswer, Change, Phase, read_of, Request, StepsOn, on_one, FitsPhase, HasPerformed, IsToAdd, MayWalkOn, WalkingFields, steps_of_walk, AsksToAdd, steps_to_change, one_step_turns}
use Rattle.mlt_hash.proofs.StepsLeft.{put_is_left}
use Rattle.mlt_tx_two_records.{specs.WidePass.PutsThen, proofs.WideGoing.goes_further, proofs.WideGoing.puts_behind, proofs.WideGoing.puts_still}

-- what its walk is to put is what it asks to add
puts_asked : (p : Phase) (context : WalkContext) (o : WalkingFields) (view : View) → FitsPhase p (one_key context) o view → PutsThen p (AsksToAdd o.request)
puts_asked (Phase.Adding value bucket depth unsplit) context o view fits = fits.1
puts_asked (Phase.Splitting value depth) context o view fits = fits.1
puts_asked other context o view fits = tt

-- its walk has a next step, and nothing is told yet
fits_under_way : (p : Phase) (context : WalkContext) (o : WalkingFields) (view : View) → IsUnderWay p → o.reply ≡ None → PutsThen p (AsksToAdd o.request) → FitsPhase p (one_key context) o view
fits_under_way Phase.Start context o view more untold asked = untold
fits_under_way (Phase.Headed dir row depth) context o view more untold asked = untold
fits_under_way (Phase.Placed bucket depth) context o view more untold asked = untold
fits_under_way (Phase.Adding value bucket depth unsplit) context o view more untold asked = (untold, asked)
fits_under_way (Phase.Splitting value depth) context o view more untold asked = (untold, asked)
fits_under_way other context o view never untold asked = absurd never

-- the target of a walk that is the same but for its phase
pub same_target : (before after : WalkingFields) → (before.walk.key, before.walk.mode) ≡ target_of before.request → IsSameWalk before.walk after.walk → after.request ≡ before.request
    → (after.walk.key, after.walk.mode) ≡ target_of after.request
same_target before after target same request = (λ i. (same.key i, same.mode i)) ∙ target ∙ ap target_of (sym request)

-- **Where its walk goes on, so does the operation.**
pub goes_on : (context : WalkContext) (old new : LocalState) (before after : WalkingFields) → MayWalkOn (one_key context) old before → Leaves old new
    → TellsAt before.walk.phase (one_key context) old new before.walk after.walk WalkAnswer.Going → after.request ≡ before.request → after.reply ≡ before.reply → before.reply ≡ None
    → StepsOn (one_key context) old new (on_one before) (on_one after)
goes_on context old new before after may leaves tells request same untold =
    let further = goes_further (one_key context) old new before.walk after.walk may.walks leaves tells in
    let asked = puts_still before.walk.phase (one_key context) old new before.walk after.walk (AsksToAdd before.request) tells (puts_asked before.walk.phase context before (view_of old) may.operates.fits) in
    let by_one : steps_to_change context.root after.walk (view_of new) + 1 ≡ steps_to_change context.root before.walk (view_of old) = further.nearer.by_one in
    record {
      turn = one_step_turns (one_key context) old new before.walk may.walks leaves;
      request = request;
      in_first = λ first. further.same.pass ∙ first;
      operates = record {
        alone = ap size_key_of request ∙ may.operates.alone;
        target = same_target before after may.operates.target further.same request;
        stands = further.stands;
        fits = fits_under_way after.walk.phase context after (view_of new) further.under_way (same ∙ untold) (subst (λ (r : Request). PutsThen after.walk.phase (AsksToAdd r)) (sym request) asked);
      };
      fewer = omega (arith, by_one);
      how = record { in_pass = further.same.pass; goes = inl further.nearer };
    }

-- **Where its walk has put the record behind splits, the operation is told its reply.**
pub puts : (context : WalkContext) (old new : LocalState) (before after : WalkingFields) → MayWalkOn (one_key context) old before → Leaves old new
    → TellsAt before.walk.phase (one_key context) old new before.walk after.walk WalkAnswer.Changed → after.request ≡ before.request
    → after.reply ≡ Some (decision before.request None).0 → StepsOn (one_key context) old new (on_one before) (on_one after)
puts context old new before after may leaves tells request told =
    let put = puts_behind before.walk.phase (one_key context) old new before.walk after.walk refl tells in
    let adds : IsToAdd before put.value = subst (λ (p : Phase). FitsPhase p (one_key context) before (view_of old)) put.was may.operates.fits in
    let phase : after.walk.phase ≡ Phase.Changed put.bucket (Change.Put put.value) = put.makes.phase ∙ ap (λ (p : Phase). Phase.Changed (page_of p) (Change.Put put.value)) put.was in
    let changed : IsChanged (one_key context) after.walk (view_of new) put.bucket (Change.Put put.value) = subst (λ (p : Phase). Stands p (one_key context) after.walk (view_of new)) phase put.makes.stands in
    let read : HasRead (one_key context) after.walk.key (view_of new) None = read_of (one_key context) after.walk.key (view_of new) changed.found None changed.fits changed.read in
    let performed : HasPerformed (one_key context) after (view_of new) (Change.Put put.value) = record {
      found = None;
      reply = adds.1.0;
      decided = Add put.value;
      read = read;
      told = told ∙ ap (λ (d : ObjReply × Option RecChange). Some d.0) adds.1.1;
      asked = ap (λ (r : Request). decision r None) request ∙ adds.1.1;
      performs = inl refl;
    } in
    let last : steps_of_walk context.root after.walk (view_of new) ≡ 1 = ap (λ (p : Phase). steps_to_bucket p + steps_to_put_at p context.root after.walk (view_of new) + 1) phase in
    let left : steps_of_walk context.root before.walk (view_of old) ≡ 0 + steps_to_put_at (Phase.Adding put.value put.bucket put.room_depth false) context.root before.walk (view_of old) + 1 =
    ap (λ (p : Phase). steps_to_bucket p + steps_to_put_at p context.root before.walk (view_of old) + 1) put.was in
    record {
      turn = one_step_turns (one_key context) old new before.walk may.walks leaves;
      request = request;
      in_first = λ first. put.makes.same.pass ∙ first;
      operates = record {
        alone = ap size_key_of request ∙ may.operates.alone;
        target = same_target before after may.operates.target put.makes.same request;
        stands = put.makes.stands;
        fits = subst (λ (p : Phase). FitsPhase p (one_key context) after (view_of new)) (sym phase) performed;
      };
      fewer = omega (arith, last, left, put_is_left (put.room_depth - bucket_depth (view_of old) put.bucket) (bucket_depth (view_of old) put.bucket) (directory_depth (view_of old) context.root));
      how = record { in_pass = put.makes.same.pass; goes = inr (record { value = put.value; bucket = put.bucket; room_depth = put.room_depth; was = put.was; is = phase }) };
    }
