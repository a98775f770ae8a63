-- What a step of a wide pass to its own key tells
use Rattle.std.proofs.Common.{◌≡◌, ℕ, Option, None, refl, sym, ap, subst, ◌∙◌, inl, inr}
use Rattle.mlt_tx_two_records.proofs.Names.{Refusal, ObjReply, Request, target_of, LocalState, Leaves, LocksAtMost, IsRolledBack, TakesTurn, view_of, nothing_written, page_of, TellsAt, GoesOn, HasFound, IsSameWalk, steps_to_bucket, WalkContext, IsStanding, MayWalk, WalkFields, one_key, WalkAnswer, Change, Phase, Wide, TwoRecordAnswer, WideStage, TellsOfTwoRecords, HasJustPut, MayActOnOwn, MayWalkToOwn, TellsAtOwn, MayGoOn, ReachesBucket, IsGoingToSize, PutsOwn, PutsThen}
use Rattle.mlt_tx_two_records.{specs.WidePass.CauseAtOwn, specs.WidePass.OwnRefused, proofs.WideGoing.goes_further, proofs.WideGoing.puts_behind, proofs.WideGoing.puts_still, proofs.WideOwn.not_first, proofs.WideOwn.same_keys, proofs.WideOwn.still_wide, proofs.WideTelling.IsWhy, proofs.WideTelling.found_by_path, proofs.WideTelling.reaches, proofs.WideTelling.was_last, proofs.WideTurns.lock_and_write_turn, proofs.WideTurns.one_step_turns, proofs.WideTurns.walks_on}

module _ (context : WalkContext) (old : LocalState) (request : Request) (before : WalkFields) (may : MayGoOn context old request (Wide WideStage.Own before)) where
  -- **It may take its step.**
  pub may_walk : MayWalk (one_key context) old before
  may_walk = record {
    bounded = may.bounded;
    small = may.small;
    may = may.may;
    written = nothing_written (view_of old);
    file = may.file;
    shallow = may.shallow;
    stands = may.stands.stands;
  }

  module _ (mid : LocalState) (walk : WalkFields) (leaves : Leaves old mid) where
    turn : TakesTurn old mid
    turn = one_step_turns (one_key context) old mid before may_walk leaves

    may_walk_on : IsSameWalk before walk → IsStanding (one_key context) walk (view_of mid) → MayWalkToOwn context mid request walk
    may_walk_on same stands = record {
      adds = may.stands.adds;
      size = may.stands.size;
      keys = same_keys request before walk may.stands.size may.stands.keys same;
      to_key = still_wide before walk (target_of request).0 may.stands.to_key same;
      walks = walks_on (one_key context) old mid before walk may_walk leaves stands;
    }

    -- **It goes on,**
    pub goes_to_own : TellsAt before.phase (one_key context) old mid before walk WalkAnswer.Going → TellsOfTwoRecords context old mid (Wide WideStage.Own before) (Wide WideStage.Own walk) request TwoRecordAnswer.Going
    goes_to_own tells =
        let further = goes_further (one_key context) old mid before walk may_walk leaves tells in (
          record {
            adds = may.stands.adds;
            size = may.stands.size;
            keys = same_keys request before walk may.stands.size may.stands.keys further.same;
            to_key = still_wide before walk (target_of request).0 may.stands.to_key further.same;
            under_way = further.under_way;
            stands = further.stands;
            puts = puts_still before.phase (one_key context) old mid before walk (λ v. (r : ObjReply) × PutsOwn request r v) tells may.stands.puts;
          },
          (turn, inl further.nearer),
        )

    -- **is refused,**
    cause_of : (reason : Refusal) → IsWhy reason (one_key context) old before → CauseAtOwn reason (one_key context) old mid before
    cause_of Refusal.NoRoom why = inr why
    cause_of Refusal.OutOfMemory why = why
    cause_of other why = absurd why

    pub is_refused : (new : LocalState) (reason : Refusal) → IsWhy reason (one_key context) old before → IsRolledBack mid new → OwnRefused context old new before reason
    is_refused new reason why back = record { back = record { mid = mid; turn = turn; back = back }; cause = cause_of reason why }

    -- **has put the record behind splits,**
    module _ (tells : TellsAt before.phase (one_key context) old mid before walk WalkAnswer.Changed) where
      pub has_put_behind : HasJustPut context mid request walk
      has_put_behind =
          let put = puts_behind before.phase (one_key context) old mid before walk refl tells in
          let decided = subst (λ (p : Phase). PutsThen p (λ v. (r : ObjReply) × PutsOwn request r v)) put.was may.stands.puts in
          record {
            may = may_walk_on put.makes.same put.makes.stands;
            bucket = page_of before.phase;
            done = Change.Put put.value;
            phase = put.makes.phase;
            reply = decided.0;
            value = put.value;
            decided = decided.1;
            performs = inl refl;
          }

      pub goes_over_behind : (after : WalkFields) → IsGoingToSize context request after (view_of mid) → steps_to_bucket after.phase ≡ 2 → TellsOfTwoRecords context old mid (Wide WideStage.Own before) (Wide WideStage.Size after) request TwoRecordAnswer.Going
      goes_over_behind after goes steps =
          let put = puts_behind before.phase (one_key context) old mid before walk refl tells in
          (goes, (turn, record { size = goes; changed = inr (put.value, put.bucket, put.room_depth, put.was); steps = steps }))

    -- **or has found its key.**
    module _ (found : Option ℕ) (locks : LocksAtMost old mid (page_of walk.phase)) (tells : TellsAt before.phase (one_key context) old mid before walk (WalkAnswer.Found found)) where
      path : GoesOn (one_key context) mid before walk × HasFound walk.phase found
      path = found_by_path before.phase (one_key context) old mid before walk found tells

      last : steps_to_bucket before.phase ≡ 1
      last = was_last (one_key context) mid before walk found path.0 path.1

      pub may_act : MayActOnOwn context mid request walk found
      may_act = record { may = may_walk_on path.0.same path.0.stands; at_bucket = path.1 }

      reaches_now : (new : LocalState) → new ≡ mid → HasFound walk.phase None → ReachesBucket (one_key context) new before walk
      reaches_now new stays none = subst (λ (m : LocalState). ReachesBucket (one_key context) m before walk) (sym stays) (reaches (one_key context) mid before walk path.0 none)

      pub tells_there : (new : LocalState) (next : WideStage) (after : WalkFields) (answer : TwoRecordAnswer) → TellsAtOwn context mid new request walk next after answer → TellsOfTwoRecords context old new (Wide WideStage.Own before) (Wide next after) request answer
      tells_there new WideStage.Own after TwoRecordAnswer.Going (splits, goes) = (
        goes,
        (
          subst (λ (m : LocalState). TakesTurn old m) (sym splits.stays) turn,
          inr (record {
            walk = walk;
            reaches = reaches_now new splits.stays splits.absent;
            value = splits.value;
            needs = splits.needs;
            at_bucket = ap steps_to_bucket (splits.needs.later (not_first walk (path.0.same.pass ∙ may.stands.to_key.wide))).1;
          }),
        ),
      )
      tells_there new WideStage.Size after TwoRecordAnswer.Going (writes, goes, steps) = (
        goes,
        (
          lock_and_write_turn (one_key context) old mid new before (page_of walk.phase) may_walk locks writes.writes,
          record { size = goes; changed = inl last; steps = steps },
        ),
      )
      tells_there new WideStage.Own after (TwoRecordAnswer.Told reply) (stays, present) = (subst (λ (m : LocalState). TakesTurn old m) (sym stays) turn, last, present)
      tells_there new WideStage.Own after (TwoRecordAnswer.Refused Refusal.NoRoom) (back, none) = record {
        back = record { mid = mid; turn = turn; back = back };
        cause = inl (record { walk = walk; after = none.after; reaches = reaches (one_key context) mid before walk path.0 none.absent; none = none.none });
      }
      tells_there new other after other' never = absurd never
