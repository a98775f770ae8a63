-- The steps of one pass of an operation on one record, one after another
use Rattle.std.proofs.Common.{ℕ, ◌≡◌, ◌⊎◌, Bool, List, Option, None, refl, sym, ap, subst, ◌∙◌, inl, inr, arith}
use Rattle.mlt_tx_step_counts.proofs.Names.{ObjOp, Do, target_of, LocalState, local, View, steps_to_bucket, WalkContext, WalkFields, one_key, Pass, Phase, StepsOn, on_one, FitsPhase, WalkingFields, steps_of_walk, walk_for, walking, Answer, At, Transaction, TellsOfTransaction, IsDoneOrBlocked, AreOwnSteps, OwnStep, context_at, view_in, ObjReply, Request}
use Rattle.mlt_hash.specs.{Passes.IsNextPass, Passes.next_of, Walks.nothing_before}
use Rattle.mlt_tx_operation.specs.{Answers.HasToRestart, Answers.PutsBehindSplits, Answers.Restarts, Answers.SplitsFromHere, Walking.IsToAdd}
use Rattle.mlt_tx_step_counts.specs.Counts.{BeginsSplits, FindsNoRoom, MayFollow, PutsRecord, TakesFirstPass, TakesLaterPass, TakesNarrowPass, TakesNextPass, started_in}
use Rattle.mlt_tx_step_counts.proofs.PendingSteps.{Pends, pending_runner}
use Rattle.mlt_tx_step_counts.proofs.Stages.{GoesOnOne, Leaves, Stage, Third, from_start, goes_on_one, left_at, on_stage, still_stage}
use Rattle.mlt_tx_step_counts.proofs.Splitting.{PutsNow, SplitOutcome, SplitsOn, plan_of, splits_and_puts, splits_nearer}

-- the pass that follows a full bucket, by the pass that found it full
after_first : (next : Pass) (crowded : ℕ → Bool) (l most g : ℕ) → IsNextPass crowded l most g next → MayFollow Pass.First next
after_first Pass.First crowded l most g never = absurd never
after_first Pass.Narrow crowded l most g may = inl refl
after_first Pass.Wide crowded l most g not = inr refl

-- which is no first pass
pub not_first : {A : Type 0} (next : Pass) → MayFollow Pass.First next → next ≡ Pass.First → A
not_first next (inl is) first = cc
not_first next (inr is) first = cc

pub follows : (context : WalkContext) (m : LocalState) (walk full : WalkFields) (p : Pass) → walk.pass ≡ p → HasToRestart (one_key context) m walk full → MayFollow p (next_of full.phase)
follows context m walk full p is (inl (first, (value, needs))) =
    let next = needs.first first in
    subst (λ (q : Pass). MayFollow q (next_of full.phase)) (sym first ∙ is)
    (subst (λ (q : Phase). MayFollow Pass.First (next_of q)) (sym next.1) (after_first next.0 _ _ _ _ next.2))
follows context m walk full p is (inr widen) =
    subst (λ (q : Pass). MayFollow q (next_of full.phase)) (sym widen.narrow ∙ is)
    (subst (λ (q : Phase). MayFollow Pass.Narrow (next_of q)) (sym widen.phase) refl)

-- what is begun again is the same operation, started in the next pass
begun_anew : (context : WalkContext) (old new : LocalState) (op : ObjOp) (before next : WalkingFields) → before.request ≡ Do op → (r : Restarts (one_key context) old new (on_one before) (on_one next))
    → on_one next ≡ started_in (Do op) (next_of r.how.full.phase)
begun_anew context old new op before next asked r =
    let request : next.request ≡ Do op = r.request ∙ asked in
    let target : (next.walk.key, next.walk.mode) ≡ target_of (Do op) = r.operates.target ∙ ap target_of request in
    λ i. on_one (walking (request i) (r.untold.1 i) (record { key = (target i).0; mode = (target i).1; pass = (r.how.again i).pass; phase = (r.how.again i).phase; split = (r.how.again i).split }))

-- a walk of an operation on one record that splits its bucket
record SplitsAt (context : WalkContext) (op : ObjOp) (p : Pass) (walk : WalkFields) (t : Transaction) (seen : View) : Type 0 where
  request : Request
  reply : Option ObjReply
  untold : reply ≡ None
  n : ℕ
  stage : Stage (one_key context) Pends (Do op) n p (walking request reply walk) t seen

module _ (context : WalkContext) (op : ObjOp) (p : Pass) (o : WalkingFields) (t : Transaction) (seen : View) (step : OwnStep) (n : ℕ) (stage : Stage (one_key context) Pends (Do op) n p o t seen)
    (there : steps_to_bucket o.walk.phase ≡ 0) (untold : o.reply ≡ None) (goes : GoesOnOne (one_key context) Pends o t step) (going : step.told ≡ Answer.Going) where
  -- it puts its record,
  puts_now : (on : StepsOn (context_at (one_key context) step) (local t.subtx step.old.pages) (local step.after.subtx step.new.pages) (on_one o) (on_one goes.next)) → PutsBehindSplits o.walk goes.next.walk
      → PutsNow (one_key context) PutsRecord o.walk t step
  puts_now on behind =
      let last : steps_of_walk context.root goes.next.walk (view_in step.after step.new) ≡ 1 = ap (λ (x : Phase). left_at x context.root goes.next.walk (view_in step.after step.new)) behind.is in
      record {
        going = going;
        value = behind.value;
        bucket = behind.bucket;
        room_depth = behind.room_depth;
        was = behind.was;
        puts = λ l back depth own. record {
          o = o;
          o' = goes.next;
          pending = stage.runs;
          still = goes.runs;
          puts = behind;
          depth = depth;
          ends = (pending_runner (one_key context)).ends (on_one goes.next) step.after (view_in step.after step.new) back goes.runs
              ((on_stage (one_key context) Pends (Do op) n p o t seen step stage goes on.request on.how.in_pass on.operates).told last) last own;
        };
      }

  -- or goes on splitting
  splits_on : (on : StepsOn (context_at (one_key context) step) (local t.subtx step.old.pages) (local step.after.subtx step.new.pages) (on_one o) (on_one goes.next))
      → PutsNow (one_key context) PutsRecord o.walk t step ⊎ SplitsOn (one_key context) (SplitsAt (one_key context) op p) o.walk t step
  splits_on on = elim on.how.goes [
    | inr behind ↦ inl (puts_now on behind)
    | inl near ↦
        let stage' = on_stage (one_key context) Pends (Do op) n p o t seen step stage goes on.request on.how.in_pass on.operates in
        inr (splits_nearer (one_key context) (SplitsAt (one_key context) op p) o.walk goes.next.walk t step there going near
        (λ some. record {
          request = goes.next.request;
          reply = goes.next.reply;
          untold = stage'.untold (omega (arith, some));
          n = steps_of_walk context.root goes.next.walk (view_in step.after step.new);
          stage = stage';
        }))
  ]

-- **What a step makes of a walk that splits.**
split_outcome : (context : WalkContext) (op : ObjOp) (p : Pass) (walk : WalkFields) (t : Transaction) (seen : View) (step : OwnStep) → SplitsAt (one_key context) op p walk t seen → steps_to_bucket walk.phase ≡ 0 → view_in t step.old ≡ seen
    → TellsOfTransaction (context_at (one_key context) step) t step.after step.old step.new step.told → SplitOutcome (one_key context) (SplitsAt (one_key context) op p) PutsRecord walk t step
split_outcome context op p walk t seen step s there sees tells =
    let o = walking s.request s.reply walk in
    elim ((pending_runner (one_key context)).step (on_one o) t step s.stage.runs s.untold tells) [
      | inl waits ↦ inl (record {
        waits = waits.waits;
        same = waits.same;
        is = record {
          request = s.request;
          reply = s.reply;
          untold = s.untold;
          n = s.n;
          stage = still_stage (one_key context) Pends (Do op) s.n p o t seen step s.stage waits.runs (waits.same ∙ sees);
        };
      })
      | inr (inr away) ↦ inr (inl away.refused)
      | inr (inl goes) ↦
          let one = goes_on_one (one_key context) Pends o t step goes in
          elim one.tells [
            | inl on ↦ inr (inr (splits_on context op p o t seen step s.n s.stage there s.untold one goes.going on))
            | inr (inl splits) ↦ absurd (omega (arith, there, splits.how.splits.reaches.last))
            | inr (inr again) ↦ absurd (omega (arith, there, again.how.reaches.last))
          ]
    ]

-- what may follow where there is no room
abbrev Follows : WalkContext → ObjOp → Pass → (Pass → List OwnStep → Type 0) → Type 0
Follows context op p Then =
    (next : Pass) (t : Transaction) (seen : View) (steps : List OwnStep) → MayFollow p next → t.at ≡ At.Pending (started_in (Do op) next) → AreOwnSteps (one_key context) t seen steps → Then next steps

module _ (context : WalkContext) (op : ObjOp) (p : Pass) where
  -- a pass that is given up
  no_room : (Then : Pass → List OwnStep → Type 0) → Follows (one_key context) op p Then → Leaves (one_key context) Pends (Do op) p Restarts (FindsNoRoom (one_key context) op p Then)
  no_room Then then n o t seen step more stage goes r own =
      let next = next_of r.how.full.phase in
      let may = follows (context_at (one_key context) step) r.back.mid r.how.walk r.how.full p (r.how.reaches.same.pass ∙ stage.in_pass) r.how.restarts in
      let anew = begun_anew (context_at (one_key context) step) (local t.subtx step.old.pages) (local step.after.subtx step.new.pages) op o goes.next stage.asked r in
      record {
        o = on_one o;
        pending = stage.runs;
        next = next;
        follows = may;
        begins = goes.runs ∙ ap At.Pending anew;
        restarts = subst (Restarts (context_at (one_key context) step) (local t.subtx step.old.pages) (local step.after.subtx step.new.pages) (on_one o)) anew r;
        later = then next step.after (view_in step.after step.new) more may (goes.runs ∙ ap At.Pending anew) own;
      }

  -- a pass that splits
  splitting : Leaves (one_key context) Pends (Do op) p SplitsFromHere (BeginsSplits (one_key context))
  splitting n o t seen step more stage goes s own =
      let seen' = view_in step.after step.new in
      let later : s.how.splits.walk.pass ≡ Pass.First → ⊥ = λ first. s.later (sym s.how.splits.reaches.same.pass ∙ first) in
      let plan = plan_of (one_key context) step nothing_before nothing_before o.walk goes.next.walk seen' (λ k. refl) s.how.splits later s.operates.stands in
      let adds : IsToAdd goes.next plan.3.value = subst (λ (x : Phase). FitsPhase x (context_at (one_key context) step) goes.next seen') plan.3.phase s.operates.fits in
      record {
        o = o;
        o' = goes.next;
        pending = stage.runs;
        still = goes.runs;
        splits = s;
        l = plan.0;
        g = plan.1;
        d = plan.2;
        plan = plan.3;
        ends = splits_and_puts (one_key context) (SplitsAt (one_key context) op p) PutsRecord (split_outcome (one_key context) op p) more goes.next.walk step.after seen' plan.0 plan.1 plan.2
            (record {
              request = goes.next.request;
              reply = goes.next.reply;
              untold = adds.0;
              n = steps_of_walk context.root goes.next.walk seen';
              stage = on_stage (one_key context) Pends (Do op) n p o t seen step stage goes s.request s.how.in_pass s.operates;
            }) plan.3 own;
      }

pass_from : (context : WalkContext) (op : ObjOp) (Then : Pass → List OwnStep → Type 0) (p : Pass) → Follows (one_key context) op p Then
    → (t : Transaction) (seen : View) (steps : List OwnStep) → t.at ≡ At.Pending (started_in (Do op) p)
    → AreOwnSteps (one_key context) t seen steps → Third (one_key context) IsDoneOrBlocked p (BeginsSplits (one_key context)) (FindsNoRoom (one_key context) op p Then) 3 steps
pass_from context op Then p then t seen steps pending own =
    from_start (one_key context) Pends IsDoneOrBlocked (pending_runner (one_key context)) (Do op) p (BeginsSplits (one_key context)) (FindsNoRoom (one_key context) op p Then)
    (splitting (one_key context) op p) (no_room (one_key context) op p Then then) (walking (Do op) None (record (walk_for (Do op)) { pass = p })) t seen steps pending refl refl refl refl own

-- **A wide pass.**
pub wide_pass : (context : WalkContext) (op : ObjOp) (t : Transaction) (seen : View) (steps : List OwnStep) → t.at ≡ At.Pending (started_in (Do op) Pass.Wide) → AreOwnSteps (one_key context) t seen steps → TakesLaterPass (one_key context) steps
wide_pass context op t seen steps pending own =
    elim (pass_from (one_key context) op (λ next back. TakesLaterPass (one_key context) back) Pass.Wide (λ next t' seen' back never is own'. absurd never) t seen steps pending own) [
      | inl then ↦ inl then
      | inr (inl away) ↦ inr (inl away.0)
      | inr (inr (inl splits)) ↦ inr (inr splits.0)
      | inr (inr (inr none)) ↦ absurd none.turns.follows
    ]

-- **A narrow pass.**
pub narrow_pass : (context : WalkContext) (op : ObjOp) (t : Transaction) (seen : View) (steps : List OwnStep) → t.at ≡ At.Pending (started_in (Do op) Pass.Narrow) → AreOwnSteps (one_key context) t seen steps → TakesNarrowPass (one_key context) op steps
narrow_pass context op t seen steps pending own =
    elim (pass_from (one_key context) op (λ next back. TakesLaterPass (one_key context) back) Pass.Narrow
    (λ next t' seen' back is pending' own'. wide_pass (one_key context) op t' seen' back (pending' ∙ ap (λ (p : Pass). At.Pending (started_in (Do op) p)) is) own') t seen steps pending own) [
      | inl then ↦ inl (inl then)
      | inr (inl away) ↦ inl (inr (inl away.0))
      | inr (inr (inl splits)) ↦ inl (inr (inr splits.0))
      | inr (inr (inr none)) ↦ inr none
    ]

-- what follows a first pass
after_a_first : (context : WalkContext) (op : ObjOp) (next : Pass) (t : Transaction) (seen : View) (steps : List OwnStep) → MayFollow Pass.First next → t.at ≡ At.Pending (started_in (Do op) next) → AreOwnSteps (one_key context) t seen steps → TakesNextPass (one_key context) op next steps
after_a_first context op Pass.First t seen steps may pending own = not_first Pass.First may refl
after_a_first context op Pass.Narrow t seen steps may pending own = narrow_pass (one_key context) op t seen steps pending own
after_a_first context op Pass.Wide t seen steps may pending own = wide_pass (one_key context) op t seen steps pending own

-- **A first pass.**
pub first_pass : (context : WalkContext) (op : ObjOp) (t : Transaction) (seen : View) (steps : List OwnStep) → t.at ≡ At.Pending (started_in (Do op) Pass.First) → AreOwnSteps (one_key context) t seen steps → TakesFirstPass (one_key context) op steps
first_pass context op t seen steps pending own = elim (pass_from (one_key context) op (TakesNextPass (one_key context) op) Pass.First (after_a_first (one_key context) op) t seen steps pending own) [
  | inl then ↦ inl then
  | inr (inl away) ↦ absurd (away.1 refl)
  | inr (inr (inl splits)) ↦ absurd (splits.1 refl)
  | inr (inr (inr none)) ↦ inr none
]
