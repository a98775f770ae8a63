-- What a step of a wide pass to the size's key tells, over what it wrote for the own one
use Rattle.std.proofs.Common.{◌≡◌, ℕ, ◌≤◌, None, Option, Some, true, is_some, refl, sym, ap, subst, ◌∙◌, inl, inr, arith}
use Rattle.mlt_tx_two_records.proofs.Names.{Refusal, Page, ObjReply, RecChange, Add, Request, decision, size_decision, depth_of, header_of, Agrees, over, LocalState, Leaves, LocksAtMost, IsRolledBack, TakesTurn, view_of, agrees, NeedsSplit, page_of, HasToMake, TellsAt, GoesOn, HasFound, steps_to_bucket, WalkContext, Before, HasRead, IsChanged, MayWalk, Stands, WalkFields, context_after, one_key, view_for, WalkAnswer, Change, Phase, read_of, TwoRecordAnswer, Wide, WideStage, TellsOfTwoRecords, MayActOnSize, MayStepToSize, TellsAtSize, MayGoOn, HasPutOwn, PutsSize, PutsThen}
use Rattle.mlt_hash_split.proofs.Closing.{held_page_over}
use Rattle.mlt_tx_two_records.{specs.AtWideBuckets.RefusesAt, specs.WidePass.CauseAtSize, specs.WidePass.SizeRefused, specs.WidePass.SizeWalksOn, proofs.WideGoing.goes_further, proofs.WideGoing.puts_behind, proofs.WideGoing.puts_still, proofs.WideOwn.not_first, proofs.WideOwners.agreed_then, proofs.WideOwners.form_since, proofs.WideSize.put_still, proofs.WideSize.size_keys, proofs.WideSize.size_wide, proofs.WideTurns.lock_and_write_turn, proofs.WideTurns.one_step_turns, proofs.WideTurns.walks_on}
use Rattle.mlt_tx_two_records.proofs.WideTelling.{IsWhy, found_by_path, reaches, waits, was_last}

-- ---- what the pass did before it went on to this key

module _ (context : WalkContext) (m : LocalState) (request : Request) (walk : WalkFields) (may : MayGoOn context m request (Wide WideStage.Size walk)) where
  abbrev since : Before
  since = may.stands.since

  abbrev put : HasPutOwn context request (view_of m) since
  put = may.stands.put

  agree : Agrees (view_of m).seen may.file.clean
  agree = agrees m may.file.clean may.may may.file.is_clean

  -- the directory is as shallow as it was left
  shallow : depth_of (over may.file.clean since.written) context.root ≤ context.max_depth
  shallow =
      let clean = may.file.clean in
      let then_agrees = agreed_then context request (view_of m) since clean put agree may.file.form in
      let changed : IsChanged (one_key context) put.walk put.then_view put.bucket put.done = put.changed in
      let seen : is_some (put.then_view.seen context.root) ≡ true = ap is_some changed.read.way.placed.head in
      let head : over clean put.then_view.own context.root ≡ Some (Page.Head changed.header) = sym (held_page_over put.then_view clean context.root then_agrees seen) ∙ changed.head in
      let most : depth_of (over clean put.then_view.own) context.root ≤ context.max_depth = subst (λ (p : Option Page). (header_of p).depth ≤ context.max_depth) (sym head) changed.shallow in
      subst (λ (s : Before). depth_of (over clean s.written) context.root ≤ context.max_depth) (sym put.since_is) most

  -- **It may take its step over that.**
  pub may_step : MayStepToSize context m request walk since
  may_step = record {
    may = record {
      adds = may.stands.adds;
      put = put;
      keys = may.stands.keys;
      to_key = may.stands.to_key;
      walks = record {
        bounded = may.bounded;
        small = may.small;
        may = may.may;
        written = put.written;
        file = record { clean = may.file.clean; is_clean = may.file.is_clean; form = form_since context request (view_of m) since may.file.clean put agree may.file.form };
        shallow = shallow;
        stands = may.stands.stands;
      };
    };
    under_way = may.stands.under_way;
    puts = may.stands.puts;
  }

-- at the last step of its way it makes no page
no_page_made : (p : Phase) (context : WalkContext) (old : LocalState) (walk : WalkFields) → steps_to_bucket p ≡ 1 → HasToMake p context old walk → ⊥
no_page_made (Phase.Adding value bucket depth unsplit) context old walk one makes = absurd (omega (arith, one))
no_page_made (Phase.Splitting value depth) context old walk one makes = absurd (omega (arith, one))
no_page_made other context old walk one makes = makes

-- ---- its steps

module _ (context : WalkContext) (old : LocalState) (request : Request) (before : WalkFields) (since : Before) (ready : MayStepToSize context old request before since) where
  abbrev on : WalkContext
  on = context_after since context

  abbrev may_walk : MayWalk on old before
  may_walk = ready.may.walks

  -- **It waits,**
  pub waits_there : (new : LocalState) (after : WalkFields) (page by : ℕ) → TellsAt before.phase on old new before after (WalkAnswer.Waiting page by) → TellsOfTwoRecords context old new (Wide WideStage.Size before) (Wide WideStage.Size after) request (TwoRecordAnswer.Waiting page by)
  waits_there new after page by tells = record { since = since; put = ready.may.put; waits = waits on old new before after page by tells }

  module _ (mid : LocalState) (walk : WalkFields) (leaves : Leaves old mid) where
    turn : TakesTurn old mid
    turn = one_step_turns on old mid before may_walk leaves

    abbrev put_now : HasPutOwn context request (view_of mid) since
    put_now = put_still context request since old mid may_walk.may leaves.touches ready.may.put

    -- **goes on,**
    pub goes_to_size : TellsAt before.phase on old mid before walk WalkAnswer.Going → TellsOfTwoRecords context old mid (Wide WideStage.Size before) (Wide WideStage.Size walk) request TwoRecordAnswer.Going
    goes_to_size tells =
        let further = goes_further on old mid before walk may_walk leaves tells in (
          record {
            adds = ready.may.adds;
            since = since;
            put = put_now;
            keys = size_keys request before walk ready.may.keys further.same;
            to_key = size_wide before walk ready.may.to_key further.same;
            under_way = further.under_way;
            stands = further.stands;
            puts = puts_still before.phase on old mid before walk (PutsSize request ready.may.put.reply) tells ready.puts;
          },
          (turn, record { since = since; put = put_now; walks = inl further.nearer }),
        )

    -- **is refused,**
    cause_of : (reason : Refusal) → IsWhy reason on old before → CauseAtSize reason on old mid before
    cause_of Refusal.NoRoom why = inr why
    cause_of Refusal.OutOfMemory why = let none = why.0 in (omega (arith, none), why.1)
    cause_of other why = absurd why

    pub is_refused : (new : LocalState) (reason : Refusal) → IsWhy reason on old before → IsRolledBack mid new → SizeRefused context old new request before reason
    is_refused new reason why back = record { back = record { mid = mid; turn = turn; back = back }; since = since; put = ready.may.put; cause = cause_of reason why }

    -- **has put the record behind splits,**
    pub told_behind : (reply : ObjReply) → reply ≡ (decision request None).0 → TellsAt before.phase on old mid before walk WalkAnswer.Changed → TellsOfTwoRecords context old mid (Wide WideStage.Size before) (Wide WideStage.Size walk) request (TwoRecordAnswer.Told reply)
    told_behind reply is tells =
        let put = puts_behind before.phase on old mid before walk refl tells in
        let value_is : PutsSize request ready.may.put.reply put.value = subst (λ (p : Phase). PutsThen p (PutsSize request ready.may.put.reply)) put.was ready.puts in
        let reply_is : reply ≡ ready.may.put.reply = is ∙ ap (λ (r : ObjReply × Option RecChange). r.0) ready.may.put.decided in
        let changed : IsChanged on walk (view_for on mid) (page_of before.phase) (Change.Put put.value) = subst (λ (p : Phase). Stands p on walk (view_for on mid)) put.makes.phase put.makes.stands in
        let read : HasRead on walk.key (view_for on mid) None = read_of on walk.key (view_for on mid) changed.found None changed.fits changed.read in (
          turn,
          inr (put.value, put.bucket, put.room_depth, put.was),
          record {
            adds = ready.may.adds;
            since = since;
            put = put_now;
            reply_is = reply_is;
            keys = size_keys request before walk ready.may.keys put.makes.same;
            to_key = size_wide before walk ready.may.to_key put.makes.same;
            bucket = page_of before.phase;
            done = Change.Put put.value;
            phase = put.makes.phase;
            stands = put.makes.stands;
            found = None;
            read = read;
            resize = Add put.value;
            resized = ap (λ (r : ObjReply). size_decision request r None) reply_is ∙ value_is;
            performs = inl refl;
          },
        )

    -- **or has found its key.**
    module _ (found : Option ℕ) (locks : LocksAtMost old mid (page_of walk.phase)) (tells : TellsAt before.phase on old mid before walk (WalkAnswer.Found found)) where
      path : GoesOn on mid before walk × HasFound walk.phase found
      path = found_by_path before.phase on old mid before walk found tells

      last : steps_to_bucket before.phase ≡ 1
      last = was_last on mid before walk found path.0 path.1

      pub may_act : MayActOnSize context mid request walk found since
      may_act = record {
        may = record {
          adds = ready.may.adds;
          put = put_now;
          keys = size_keys request before walk ready.may.keys path.0.same;
          to_key = size_wide before walk ready.may.to_key path.0.same;
          walks = walks_on on old mid before walk may_walk leaves path.0.stands;
        };
        at_bucket = path.1;
      }

      refused_at_bucket : (reason : Refusal) → RefusesAt reason on mid walk → CauseAtSize reason on old mid before
      refused_at_bucket Refusal.NoRoom none = inl (record { walk = walk; after = none.after; reaches = reaches on mid before walk path.0 none.absent; none = none.none })
      refused_at_bucket Refusal.OutOfMemory none = (omega (arith, last), λ lacks. no_page_made before.phase on old before last lacks.makes)
      refused_at_bucket other none = absurd none

      pub tells_there : (new : LocalState) (after : WalkFields) (told : TwoRecordAnswer) → TellsAtSize context since mid new request walk after told → TellsOfTwoRecords context old new (Wide WideStage.Size before) (Wide WideStage.Size after) request told
      tells_there new after TwoRecordAnswer.Going (splits, goes) = (
        goes,
        (
          subst (λ (m : LocalState). TakesTurn old m) (sym splits.stays) turn,
          subst (λ (m : LocalState). SizeWalksOn context old m request before after) (sym splits.stays) (record {
            since = since;
            put = put_now;
            walks = inr (record {
              walk = walk;
              reaches = reaches on mid before walk path.0 splits.absent;
              value = splits.value;
              needs = subst (λ (m : LocalState). NeedsSplit on m walk after splits.value) splits.stays splits.needs;
              at_bucket = ap steps_to_bucket (splits.needs.later (not_first walk (path.0.same.pass ∙ ready.may.to_key.wide))).1;
            });
          }),
        ),
      )
      tells_there new after (TwoRecordAnswer.Told reply) (writes, both) = (
        lock_and_write_turn on old mid new before (page_of walk.phase) may_walk locks writes.writes,
        inl last,
        both,
      )
      tells_there new after (TwoRecordAnswer.Refused reason) (back, why) = record {
        back = record { mid = mid; turn = turn; back = back };
        since = since;
        put = ready.may.put;
        cause = refused_at_bucket reason why;
      }
      tells_there new after other never = absurd never
