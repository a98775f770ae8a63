-- The steps of a wide pass of an operation on two records, one after another
use Rattle.std.proofs.Common.{ℕ, zero, suc, ◌≡◌, ◌≤◌, ◌+◌, ◌-◌, ◌⊎◌, List, [], ◌∷◌, refl, sym, ap, subst, ◌∙◌, inl, inr, arith}
use Rattle.mlt_tx_step_counts.proofs.Names.{ObjOp, Request, Do, target_of, local, View, steps_to_bucket, bucket_depth, directory_depth, steps_to_put_at, WalkContext, Stands, WalkFields, one_key, Pass, Phase, put_on_way, TwoRecordWalk, Wide, WideStage, GoesOnBy, TellsLast, wide_to, Answer, At, Transaction, TellsOfTransaction, IsDoneOrBlocked, IsRefusal, IsPendingAt, TakesWidePassOfTwo, started_wide, AreOwnSteps, GoesThen, OwnStep, answers_of, context_at, view_in, put_is_left}
use Rattle.mlt_hash_form.specs.File.{FilePages}
use Rattle.mlt_hash_access.{proofs.Since.read_over_writes, specs.Views.HasWritten, specs.Views.rebased}
use Rattle.mlt_hash_split.specs.Rests.{held_page}
use Rattle.mlt_hash.specs.{Splitting.IsUnderWay, Walks.Before, Walks.context_after, Walks.nothing_before}
use Rattle.mlt_tx_two_records.specs.TwoRecordWalks as walks
use Rattle.mlt_tx_two_records.specs.{WalkSteps.BeginsToSplit, WalkSteps.GoesNearer, WalkSteps.steps_to_change, WidePass.HasChangedNow, WidePass.PutsBehind, WidePass.WalksOn}
use Rattle.mlt_tx_step_counts.{specs.Counts.IsToSplit, proofs.PendingSteps.Pends, proofs.PendingSteps.pending_runner, proofs.Stages.last_to_bucket, proofs.Stages.last_to_change, proofs.Stages.some_behind}
use Rattle.mlt_tx_step_counts.proofs.Splitting.{PutsNow, SplitOutcome, plan_of, splits_and_puts, splits_nearer}
use Rattle.mlt_tx_step_counts.specs.CountsOfTwo.{BeginsSplitsOn, BeginsToSplitOn, GoesOver, PutsOn, TakesSizesWideStage}
use Rattle.mlt_tx_step_counts.proofs.Answers.{EndsIn, ends_after, one_more, refused_in, then_after, turn_here}
use Rattle.mlt_tx_step_counts.proofs.StagesOfTwo.{WaitsAt, IsReady, StandsAt, pending_at, pending_end, step_of_two}

-- ---- what a walk sees of pages that it wrote before

-- what is written before is written still, so a page is the same whether it is taken as seen or not
rebased_page : (written : FilePages) (view : View) → HasWritten written view → (q : ℕ) → held_page (rebased written view) q ≡ held_page view q
rebased_page written view has q = read_over_writes (written q) (view.own q) (view.seen q) (λ some. (has q some).1)

-- ---- how many steps are left to a change

-- one at least, for a walk that is under way
left_at_least : (p : Phase) (context : WalkContext) (walk : WalkFields) (view seen : View) → Stands p context walk view → IsUnderWay p → 1 ≤ steps_to_bucket p + steps_to_put_at p context.root walk seen
left_at_least Phase.Start context walk view seen stands under = omega arith
left_at_least (Phase.Headed dir row depth) context walk view seen stands under = omega arith
left_at_least (Phase.Placed bucket depth) context walk view seen stands under = omega arith
left_at_least (Phase.Adding value bucket d unsplit) context walk view seen stands under =
    omega (arith, put_is_left (d - bucket_depth seen bucket) (bucket_depth seen bucket) (directory_depth seen context.root))
left_at_least (Phase.Splitting value d) context walk view seen stands under = omega (arith, some_behind walk.split stands.split d stands.split_is)
left_at_least other context walk view seen stands none = absurd none

-- ---- one step of a wide stage

-- it is nearer to its change
record IsNearer (context : WalkContext) (request : Request) (on : WideStage) (walk : WalkFields) (t : Transaction) (own : OwnStep) : Type 0 where
  going : own.told ≡ Answer.Going
  next : WalkFields
  stands : StandsAt Pends request (Wide on next) own.after
  some : 1 ≤ steps_to_change context.root next (view_in own.after own.new)
  near : GoesNearer context.root (view_in t own.old) (view_in own.after own.new) walk next

-- its bucket is to be split
record IsToBeSplit (context : WalkContext) (request : Request) (on : WideStage) (walk : WalkFields) (t : Transaction) (own : OwnStep) : Type 0 where
  going : own.told ≡ Answer.Going
  next : WalkFields
  stands : StandsAt Pends request (Wide on next) own.after
  last : steps_to_bucket walk.phase ≡ 1
  splits : BeginsToSplitOn on (context_at (one_key context) own) (local own.after.subtx own.new.pages) walk next
  plan : (l : ℕ) × (g : ℕ) × (d : ℕ) × IsToSplit (one_key context) (view_in own.after own.new) next l g d

-- it goes on to the key of the size
record IsOver (context : WalkContext) (request : Request) (on : WideStage) (walk : WalkFields) (t : Transaction) (own : OwnStep) : Type 0 where
  going : own.told ≡ Answer.Going
  is_own : on ≡ WideStage.Own
  next : WalkFields
  stands : StandsAt Pends request (Wide WideStage.Size next) own.after
  changed : HasChangedNow walk
  steps : steps_to_bucket next.phase ≡ 2

-- it tells its reply
record IsTellingNow (on : WideStage) (walk : WalkFields) (own : OwnStep) : Type 0 where
  going : own.told ≡ Answer.Going
  ready : IsReady Pends own.after
  changed : HasChangedNow walk
  size : PutsBehind walk → on ≡ WideStage.Size

abbrev WideStageOutcome : WalkContext → Request → WideStage → WalkFields → Transaction → OwnStep → Type 0
WideStageOutcome context request on walk t own =
    WaitsAt Pends request (Wide on walk) t own ⊎ IsNearer (one_key context) request on walk t own ⊎ IsToBeSplit (one_key context) request on walk t own
    ⊎ IsOver (one_key context) request on walk t own ⊎ IsTellingNow on walk own ⊎ IsRefusal own.told

module _ (context : WalkContext) (request : Request) where
  -- its walk goes on, over what was written before
  walks_on : (on : WideStage) (since since' : Before) (walk next : WalkFields) (t : Transaction) (own : OwnStep) (view : View) → own.told ≡ Answer.Going
      → StandsAt Pends request (Wide on next) own.after
      → ((p : ℕ) → held_page view p ≡ held_page (view_in own.after own.new) p) → Stands next.phase (context_after since' (context_at (one_key context) own)) next view
      → IsUnderWay next.phase → next.pass ≡ Pass.Wide
      → (BeginsToSplit (context_after since (context_at (one_key context) own)) (local own.after.subtx own.new.pages) walk next
      → BeginsToSplitOn on (context_at (one_key context) own) (local own.after.subtx own.new.pages) walk next)
      → WalksOn (context_after since (context_at (one_key context) own)) (local t.subtx own.old.pages) (local own.after.subtx own.new.pages) walk next
      → WideStageOutcome (one_key context) request on walk t own
  walks_on on since since' walk next t own view going s same stands under wide splits (inl near) = inr (inl (record {
    going = going;
    next = next;
    stands = s;
    some = left_at_least next.phase (context_after since' (context_at (one_key context) own)) next view (view_in own.after own.new) stands under;
    near = near;
  }))
  walks_on on since since' walk next t own view going s same stands under wide splits (inr b) = inr (inr (inl (record {
    going = going;
    next = next;
    stands = s;
    last = b.reaches.last;
    splits = splits b;
    plan = plan_of (one_key context) own since since' walk next view same b (λ (first : b.walk.pass ≡ Pass.First). let both : Pass.Wide ≡ Pass.First = sym wide ∙ b.needs.same.pass ∙ first in cc) stands;
  })))

  goes_on : (on : WideStage) (walk : WalkFields) (t : Transaction) (own : OwnStep) → own.told ≡ Answer.Going → (after : TwoRecordWalk) → StandsAt Pends request after own.after
      → walks.Stands after (context_at (one_key context) own) request (view_in own.after own.new)
      → GoesOnBy (Wide on walk) after (context_at (one_key context) own) (local t.subtx own.old.pages) (local own.after.subtx own.new.pages) request
      → WideStageOutcome (one_key context) request on walk t own
  goes_on WideStage.Own walk t own going (Wide WideStage.Own next) s holds (turn, on) =
      walks_on WideStage.Own nothing_before nothing_before walk next t own (view_in own.after own.new) going s (λ p. refl) holds.stands holds.under_way holds.to_key.wide (λ b. b) on
  goes_on WideStage.Own walk t own going (Wide WideStage.Size next) s holds (turn, over) = inr (inr (inr (inl (record {
    going = going;
    is_own = refl;
    next = next;
    stands = s;
    changed = over.changed;
    steps = over.steps;
  }))))
  goes_on WideStage.Size walk t own going (Wide WideStage.Size next) s holds (turn, on) =
      walks_on WideStage.Size on.since holds.since walk next t own (rebased holds.since.written (view_in own.after own.new)) going s
      (rebased_page holds.since.written (view_in own.after own.new) holds.put.written) holds.stands holds.under_way holds.to_key.wide (λ b. (on.since, b)) on.walks
  goes_on on walk t own going other s holds none = absurd none

  tells_on : (on : WideStage) (walk : WalkFields) (own : OwnStep) → own.told ≡ Answer.Going → IsReady Pends own.after → (after : TwoRecordWalk)
      → TellsLast (Wide on walk) after → IsTellingNow on walk own
  tells_on WideStage.Own walk own going ready (Wide WideStage.Own next) last =
      record { going = going; ready = ready; changed = inl last; size = λ behind. absurd (omega (arith, last, ap steps_to_bucket behind.3)) }
  tells_on WideStage.Size walk own going ready (Wide WideStage.Size next) changed = record { going = going; ready = ready; changed = changed; size = λ behind. refl }
  tells_on on walk own going ready after none = absurd none

  -- **A step of a stage.**
  wide_stage_step : (on : WideStage) (walk : WalkFields) (t : Transaction) (own : OwnStep) → StandsAt Pends request (Wide on walk) t
      → TellsOfTransaction (context_at (one_key context) own) t own.after own.old own.new own.told → WideStageOutcome (one_key context) request on walk t own
  wide_stage_step on walk t own s tells = elim (step_of_two (one_key context) Pends IsDoneOrBlocked (pending_runner (one_key context)) request (Wide on walk) t own s tells) [
    | inl waits ↦ inl waits
    | inr (inl goes) ↦ goes_on on walk t own goes.going goes.after goes.stands goes.holds goes.how
    | inr (inr (inl now)) ↦ inr (inr (inr (inr (inl (tells_on on walk own now.going now.ready now.after now.how)))))
    | inr (inr (inr away)) ↦ inr (inr (inr (inr (inr away.refused))))
  ]

-- ---- the steps of a stage

-- how a stage ends where n steps are left to its change: it is told Done or Blocked behind them; or is refused by then; or goes over
-- to the key of the size; or splits its bucket
abbrev EndsWideStage : WalkContext → WideStage → (List OwnStep → Type 0) → ℕ → List OwnStep → Type 0
EndsWideStage context on Then n steps = EndsIn (one_key context) IsDoneOrBlocked (Unit {0}) (on ≡ WideStage.Own) (GoesOver Then) (BeginsSplitsOn (one_key context) on Then) n steps

module _ (context : WalkContext) (request : Request) (on : WideStage) (Then : List OwnStep → Type 0)
    (over_then : (walk : WalkFields) (t : Transaction) (seen : View) (steps : List OwnStep) → on ≡ WideStage.Own → StandsAt Pends request (Wide WideStage.Size walk) t
    → steps_to_bucket walk.phase ≡ 2 → AreOwnSteps (one_key context) t seen steps → Then steps)
    (end_then : (t : Transaction) (seen : View) (steps : List OwnStep) → on ≡ WideStage.Size → IsReady Pends t → AreOwnSteps (one_key context) t seen steps → Then steps) where
  -- the record is put behind splits
  puts_behind : (walk : WalkFields) (t : Transaction) (own : OwnStep) → StandsAt Pends request (Wide on walk) t → own.told ≡ Answer.Going → PutsBehind walk
      → ((back : List OwnStep) → AreOwnSteps (one_key context) own.after (view_in own.after own.new) back → Then back) → PutsNow (one_key context) (PutsOn on Then) walk t own
  puts_behind walk t own s going (value, bucket, d, was) then = record {
    going = going;
    value = value;
    bucket = bucket;
    room_depth = d;
    was = was;
    puts = λ l back depth rest. record {
      walk = walk;
      is_at = pending_at request (Wide on walk) t s;
      value = value;
      bucket = bucket;
      room_depth = d;
      was = was;
      depth = depth;
      later = then back rest;
    };
  }

  -- **What a step makes of a stage whose walk splits.**
  split_of_wide_stage : (walk : WalkFields) (t : Transaction) (seen : View) (own : OwnStep) → StandsAt Pends request (Wide on walk) t → steps_to_bucket walk.phase ≡ 0 → view_in t own.old ≡ seen
      → TellsOfTransaction (context_at (one_key context) own) t own.after own.old own.new own.told
      → SplitOutcome (one_key context) (λ w t seen. StandsAt Pends request (Wide on w) t) (PutsOn on Then) walk t own
  split_of_wide_stage walk t seen own s there sees tells = elim (wide_stage_step (one_key context) request on walk t own s tells) [
    | inl waits ↦ inl (record { waits = waits.waits; same = waits.same; is = waits.stands })
    | inr (inl nearer) ↦ inr (inr (inr (splits_nearer (one_key context) (λ w t seen. StandsAt Pends request (Wide on w) t) walk nearer.next t own there nearer.going nearer.near (λ some. nearer.stands))))
    | inr (inr (inl split)) ↦ absurd (omega (arith, there, split.last))
    | inr (inr (inr (inl over))) ↦ elim over.changed [
      | inl last ↦ absurd (omega (arith, there, last))
      | inr behind ↦ inr (inr (inl (puts_behind walk t own s over.going behind (λ back rest. over_then over.next own.after (view_in own.after own.new) back over.is_own over.stands over.steps rest))))
    ]
    | inr (inr (inr (inr (inl now)))) ↦ elim now.changed [
      | inl last ↦ absurd (omega (arith, there, last))
      | inr behind ↦ inr (inr (inl (puts_behind walk t own s now.going behind (λ back rest. end_then own.after (view_in own.after own.new) back (now.size behind) now.ready rest))))
    ]
    | inr (inr (inr (inr (inr away)))) ↦ inr (inl away)
  ]

  to_change : (steps : List OwnStep) (n : ℕ) (walk : WalkFields) (t : Transaction) (seen : View) → StandsAt Pends request (Wide on walk) t
      → steps_to_change context.root walk seen ≡ n → 1 ≤ n → n ≤ 3 → AreOwnSteps (one_key context) t seen steps → EndsWideStage (one_key context) on Then n steps
  to_change steps zero walk t seen s left some few own = absurd (omega (arith, some))
  to_change [] (suc m) walk t seen s left some few own = inl tt
  to_change (step ∷ more) (suc m) walk t seen s left some few own = elim (wide_stage_step (one_key context) request on walk t step s own.1) [
    | inl waits ↦ ends_after (one_key context) IsDoneOrBlocked _ _ (GoesOver Then) (BeginsSplitsOn (one_key context) on Then) step more (suc m) (suc m) (waits.waits (suc m))
        (to_change more (suc m) walk step.after (view_in step.after step.new) waits.stands (ap (steps_to_change context.root walk) (waits.same ∙ own.0) ∙ left) some few own.2)
    | inr (inl nearer) ↦
        let was : steps_to_change context.root walk (view_in t step.old) ≡ suc m = ap (steps_to_change context.root walk) own.0 ∙ left in
        ends_after (one_key context) IsDoneOrBlocked _ _ (GoesOver Then) (BeginsSplitsOn (one_key context) on Then) step more m (suc m) (one_more step.told m nearer.going)
        (to_change more m nearer.next step.after (view_in step.after step.new) nearer.stands
        (omega (arith, nearer.near.by_one, was)) (omega (arith, nearer.near.by_one, was, nearer.some)) (omega (arith, few)) own.2)
    | inr (inr (inl split)) ↦
        let first : m ≡ 0 = omega (arith, left, last_to_bucket context.root walk seen split.last) in
        rw first (inr (inr (inr (turn_here (one_key context) (BeginsSplitsOn (one_key context) on Then) step more t split.going (record {
          walk = walk;
          after = split.next;
          is_at = pending_at request (Wide on walk) t s;
          still = pending_at request (Wide on split.next) step.after split.stands;
          splits = split.splits;
          l = split.plan.0;
          g = split.plan.1;
          d = split.plan.2;
          plan = split.plan.3;
          ends =
              splits_and_puts (one_key context) (λ w t seen. StandsAt Pends request (Wide on w) t) (PutsOn on Then) split_of_wide_stage more split.next step.after (view_in step.after step.new)
              split.plan.0 split.plan.1 split.plan.2 split.stands split.plan.3 own.2;
        }) own.2))))
    | inr (inr (inr (inl over))) ↦
        let first : m ≡ 0 = omega (arith, left, last_to_change context.root walk seen over.changed (omega (arith, few, left))) in
        rw first (inr (inr (inl (
          turn_here (one_key context) (GoesOver Then) step more t over.going (record {
            walk = walk;
            after = over.next;
            is_at = subst (λ (l : WideStage). IsPendingAt (Wide l walk) t.at) over.is_own (pending_at request (Wide on walk) t s);
            over = pending_at request (Wide WideStage.Size over.next) step.after over.stands;
            changed = over.changed;
            steps = over.steps;
            later = over_then over.next step.after (view_in step.after step.new) more over.is_own over.stands over.steps own.2;
          }) own.2,
          over.is_own,
        ))))
    | inr (inr (inr (inr (inl now)))) ↦
        let first : m ≡ 0 = omega (arith, left, last_to_change context.root walk seen now.changed (omega (arith, few, left))) in
        rw first (inl (then_after step.told 0 1 IsDoneOrBlocked (answers_of more) (one_more step.told 0 now.going) (pending_end (one_key context) step.after (view_in step.after step.new) more now.ready own.2)))
    | inr (inr (inr (inr (inr away)))) ↦ inr (inl (refused_in m step.told (answers_of more) away, tt))
  ]

-- ---- both stages

-- **The stage to the key of the size.**
sizes_wide_stage : (context : WalkContext) (request : Request) (walk : WalkFields) (t : Transaction) (seen : View) (steps : List OwnStep)
    → StandsAt Pends request (Wide WideStage.Size walk) t → steps_to_bucket walk.phase ≡ 2 → AreOwnSteps (one_key context) t seen steps → TakesSizesWideStage (one_key context) steps
sizes_wide_stage context request walk t seen steps s two own =
    elim (to_change (one_key context) request WideStage.Size (λ back. GoesThen 0 IsDoneOrBlocked (answers_of back)) (λ w t' seen' back is s' steps rest. cc)
    (λ t' seen' back is ready rest. pending_end (one_key context) t' seen' back ready rest)
    steps 2 walk t seen s (omega (arith, two, put_on_way walk.phase context.root walk seen (omega (arith, two)))) (omega arith) (omega arith) own) [
      | inl then ↦ inl then
      | inr (inl away) ↦ inr (inl away.0)
      | inr (inr (inl over)) ↦ let is = over.1 in cc
      | inr (inr (inr turn)) ↦ inr (inr turn)
    ]

-- **A wide pass on two records.**
pub wide_of_two : (context : WalkContext) (op : ObjOp) (t : Transaction) (seen : View) (steps : List OwnStep) → t.at ≡ At.Pending (started_wide (Do op)) → AreOwnSteps (one_key context) t seen steps → TakesWidePassOfTwo (one_key context) steps
wide_of_two context op t seen steps pending own =
    elim (to_change (one_key context) (Do op) WideStage.Own (TakesSizesWideStage (one_key context))
    (λ w t' seen' back is s' two rest. sizes_wide_stage (one_key context) (Do op) w t' seen' back s' two rest) (λ t' seen' back is ready rest. cc)
    steps 3 (wide_to (target_of (Do op)).0) t seen (record { o = started_wide (Do op); runs = pending; asked = refl; access_path = refl; untold = refl }) refl (omega arith) (omega arith) own) [
      | inl then ↦ inl then
      | inr (inl away) ↦ inr (inl away.0)
      | inr (inr (inl over)) ↦ inr (inr (inl over.0))
      | inr (inr (inr turn)) ↦ inr (inr (inr turn))
    ]
