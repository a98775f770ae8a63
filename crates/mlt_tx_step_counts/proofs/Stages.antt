-- Where an operation on one record stands, by the steps that are left of its pass; what its next step makes of that; and how the pass
-- comes to its third step
use Rattle.std.proofs.Common.{ℕ, zero, suc, ◌≡◌, ◌≤◌, ◌+◌, ◌-◌, List, [], ◌∷◌, Option, None, Some, IsSome, is_some, refl, sym, ap, subst, ◌∙◌, inl, inr, arith}
use Rattle.mlt_tx_step_counts.proofs.Names.{Request, LocalState, local, View, SplitFields, steps_to_bucket, bucket_depth, depth_after, directory_depth, steps_to_put_at, WalkContext, Stands, WalkFields, one_key, Pass, Phase, StepAnswer, AccessPath, One, Two, StepsOn, TellsOfStep, OperationFields, on_one, FitsPhase, WalkingFields, steps_of_walk, walking, Transaction, OwnStep, context_at, view_in, put_on_way, Answer, AreOwnSteps, answers_of, put_is_left}
use Rattle.mlt_hash.specs.StepsLeft.{steps_of_splits, steps_with_split}
use Rattle.mlt_tx_two_records.specs.{WalkSteps.steps_to_change, WidePass.HasChangedNow}
use Rattle.mlt_tx_operation.specs.{Answers.Restarts, Answers.SplitsFromHere, Walking.IsWalking}
use Rattle.mlt_tx_step_counts.proofs.Answers.{EndsIn, ends_after, one_more, refused_in, turn_here}
use Rattle.mlt_tx_step_counts.proofs.{Extra.one_or_four, PendingSteps.Goes, PendingSteps.Runner}

-- how many steps are left at this phase
abbrev pub left_at : Phase → ℕ → WalkFields → View → ℕ
left_at p root walk view = steps_to_bucket p + steps_to_put_at p root walk view + 1

-- a split under way leaves the write of the record at least
pub some_behind : (o : Option SplitFields) (split : SplitFields) (d : ℕ) → o ≡ Some split → 1 ≤ steps_with_split o d
some_behind o split d is =
    let one : 1 ≤ steps_with_split (Some split) d = omega (arith, put_is_left (d - (split.depth + 1)) (split.depth + 1) (depth_after split.depth split.directory_depth)) in
    subst (λ (x : Option SplitFields). 1 ≤ steps_with_split x d) (sym is) one

-- at the last step the reply is told
pub told_at_last : (p : Phase) (context : WalkContext) (o : WalkingFields) (view : View) → Stands p (one_key context) o.walk view → FitsPhase p (one_key context) o view
    → left_at p context.root o.walk view ≡ 1 → IsSome o.reply
told_at_last (Phase.AtBucket bucket depth found) context o view stands fits left = ap is_some fits.1
told_at_last (Phase.Changed bucket done) context o view stands fits left = ap is_some fits.told
told_at_last (Phase.Full next) context o view stands fits left = absurd fits
told_at_last (Phase.Adding value bucket d unsplit) context o view stands fits left =
    absurd (omega (arith, left, put_is_left (d - bucket_depth view bucket) (bucket_depth view bucket) (directory_depth view context.root)))
told_at_last (Phase.Splitting value d) context o view stands fits left = absurd (omega (arith, left, some_behind o.walk.split stands.split d stands.split_is))
told_at_last other context o view stands fits left = absurd (omega (arith, left))

-- and before it is not
pub untold_before : (p : Phase) (context : WalkContext) (o : WalkingFields) (view : View) → FitsPhase p (one_key context) o view
    → 2 ≤ left_at p context.root o.walk view → o.reply ≡ None
untold_before (Phase.AtBucket bucket depth found) context o view fits left = absurd (omega (arith, left))
untold_before (Phase.Changed bucket done) context o view fits left = absurd (omega (arith, left))
untold_before (Phase.Full next) context o view fits left = absurd fits
untold_before (Phase.Adding value bucket d unsplit) context o view fits left = fits.0
untold_before (Phase.Splitting value d) context o view fits left = fits.0
untold_before other context o view fits left = fits

-- Of the operation that runs n steps are left of this pass. At the last its reply is told, and not before.
pub record Stage (context : WalkContext) (Runs : OperationFields → Transaction → Type 0) (request : Request) (n : ℕ) (p : Pass) (o : WalkingFields) (t : Transaction) (seen : View) : Type 0 where
  pub runs : Runs (on_one o) t
  pub asked : o.request ≡ request
  pub in_pass : o.walk.pass ≡ p
  pub left : steps_of_walk context.root o.walk seen ≡ n
  pub told : n ≡ 1 → IsSome o.reply
  pub untold : 2 ≤ n → o.reply ≡ None

-- one that is told Going, on one record still
pub record GoesOnOne (context : WalkContext) (Runs : OperationFields → Transaction → Type 0) (o : WalkingFields) (t : Transaction) (own : OwnStep) : Type 0 where
  pub next : WalkingFields
  pub runs : Runs (on_one next) own.after
  pub tells : TellsOfStep (context_at (one_key context) own) (local t.subtx own.old.pages) (local own.after.subtx own.new.pages) (on_one o) (on_one next) StepAnswer.Going

pub goes_on_one : (context : WalkContext) (Runs : OperationFields → Transaction → Type 0) (o : WalkingFields) (t : Transaction) (own : OwnStep)
    → Goes (one_key context) Runs (on_one o) t own → GoesOnOne (one_key context) Runs o t own
goes_on_one context Runs o t own goes = by goes.next.access_path refl goes.tells
  where
    by : (path : AccessPath) → goes.next.access_path ≡ path
        → TellsOfStep (context_at (one_key context) own) (local t.subtx own.old.pages) (local own.after.subtx own.new.pages) (on_one o) (record (goes.next) { access_path = path }) StepAnswer.Going
        → GoesOnOne (one_key context) Runs o t own
    by (One walk) is tells = record {
      next = walking goes.next.request goes.next.reply walk;
      runs = subst (λ (next : OperationFields). Runs next own.after) (λ i. record (goes.next) { access_path = is i }) goes.runs;
      tells = tells;
    }
    by (Two two_records) is (inl on) = absurd on.how
    by (Two two_records) is (inr (inl splits)) = absurd splits.how
    by (Two two_records) is (inr (inr again)) = absurd again.how

-- at the step to the bucket there is one up to the change, and so there is where the record is put behind splits, if there are three
-- at most
pub last_to_bucket : (root : ℕ) (walk : WalkFields) (view : View) → steps_to_bucket walk.phase ≡ 1 → steps_to_change root walk view ≡ 1
last_to_bucket root walk view last = omega (arith, last, put_on_way walk.phase root walk view (omega (arith, last)))

pub last_to_change : (root : ℕ) (walk : WalkFields) (view : View) → HasChangedNow walk → steps_to_change root walk view ≤ 3 → steps_to_change root walk view ≡ 1
last_to_change root walk view (inl last) few = last_to_bucket root walk view last
last_to_change root walk view (inr (value, bucket, d, was)) few =
    let k = d - bucket_depth view bucket in
    let l = bucket_depth view bucket in
    let g = directory_depth view root in
    let left : steps_to_change root walk view ≡ 0 + steps_of_splits k l g = ap (λ (p : Phase). steps_to_bucket p + steps_to_put_at p root walk view) was in
    omega (arith, left, one_or_four k l g (omega (arith, left, few)))

-- a step from where n steps are left, within its pass: just one fewer, where there are four at most
one_fewer_after : (context : WalkContext) (n : ℕ) (o next : WalkingFields) (t : Transaction) (seen : View) (own : OwnStep) → view_in t own.old ≡ seen
    → steps_of_walk context.root o.walk seen ≡ n → n ≤ 4
    → StepsOn (context_at (one_key context) own) (local t.subtx own.old.pages) (local own.after.subtx own.new.pages) (on_one o) (on_one next)
    → steps_of_walk context.root next.walk (view_in own.after own.new) + 1 ≡ n
one_fewer_after context n o next t seen own sees left few s =
    let was : steps_of_walk context.root o.walk (view_in t own.old) ≡ n = ap (steps_of_walk context.root o.walk) sees ∙ left in
    elim s.how.goes [
      | inl near ↦ omega (arith, was, near.by_one)
      | inr behind ↦
          let last : steps_of_walk context.root next.walk (view_in own.after own.new) ≡ 1 = ap (λ (q : Phase). left_at q context.root next.walk (view_in own.after own.new)) behind.is in
          omega (arith, was, last, last_to_change context.root o.walk (view_in t own.old) (inr (behind.value, behind.bucket, behind.room_depth, behind.was)) (omega (arith, was, few)))
    ]

module _ (context : WalkContext) (Runs : OperationFields → Transaction → Type 0) (request : Request) (n : ℕ) (p : Pass) (o : WalkingFields) (t : Transaction) (seen : View) (own : OwnStep)
    (stage : Stage (one_key context) Runs request n p o t seen) where
  -- **Where it waits, it is where it was;**
  pub still_stage : Runs (on_one o) own.after → view_in own.after own.new ≡ seen → Stage (one_key context) Runs request n p o own.after (view_in own.after own.new)
  still_stage runs same = record {
    runs = runs;
    asked = stage.asked;
    in_pass = stage.in_pass;
    left = ap (steps_of_walk context.root o.walk) same ∙ stage.left;
    told = stage.told;
    untold = stage.untold;
  }

  -- **and where it goes on within its pass, fewer steps are left.**
  pub on_stage : (goes : GoesOnOne (one_key context) Runs o t own) → goes.next.request ≡ o.request → goes.next.walk.pass ≡ o.walk.pass
      → IsWalking (context_at (one_key context) own) goes.next (view_in own.after own.new)
      → Stage (one_key context) Runs request (steps_of_walk context.root goes.next.walk (view_in own.after own.new)) p goes.next own.after (view_in own.after own.new)
  on_stage goes request_is pass_is walks = record {
    runs = goes.runs;
    asked = request_is ∙ stage.asked;
    in_pass = pass_is ∙ stage.in_pass;
    left = refl;
    told = told_at_last goes.next.walk.phase (context_at (one_key context) own) goes.next (view_in own.after own.new) walks.stands walks.fits;
    untold = untold_before goes.next.walk.phase (context_at (one_key context) own) goes.next (view_in own.after own.new) walks.fits;
  }

-- how a pass comes to its third step, or what becomes of it there: it splits, or finds no room
abbrev pub Third : WalkContext → (Answer → Type 0) → Pass → (Transaction → OwnStep → List OwnStep → Type 0) → (Transaction → OwnStep → List OwnStep → Type 0) → ℕ → List OwnStep → Type 0
Third context Is p Splits NoRoom = EndsIn (one_key context) Is (p ≡ Pass.First → ⊥) (p ≡ Pass.First → ⊥) Splits NoRoom

-- what is so of a step that leaves its pass so, and of the steps behind it
abbrev pub Leaves : WalkContext → (OperationFields → Transaction → Type 0) → Request → Pass
    → (WalkContext → LocalState → LocalState → OperationFields → OperationFields → Type 0) → (Transaction → OwnStep → List OwnStep → Type 0) → Type 0
Leaves context Runs request p So Turns =
    (n : ℕ) (o : WalkingFields) (t : Transaction) (seen : View) (step : OwnStep) (more : List OwnStep) → Stage (one_key context) Runs request n p o t seen
    → (goes : GoesOnOne (one_key context) Runs o t step)
    → So (context_at (one_key context) step) (local t.subtx step.old.pages) (local step.after.subtx step.new.pages) (on_one o) (on_one goes.next)
    → AreOwnSteps (one_key context) step.after (view_in step.after step.new) more → Turns t step more

module _ (context : WalkContext) (Runs : OperationFields → Transaction → Type 0) (Is : Answer → Type 0) (runner : Runner (one_key context) Runs Is) (request : Request) (p : Pass)
    (Splits NoRoom : Transaction → OwnStep → List OwnStep → Type 0)
    (splitting : Leaves (one_key context) Runs request p SplitsFromHere Splits) (no_room : Leaves (one_key context) Runs request p Restarts NoRoom) where
  pub to_third : (steps : List OwnStep) (n : ℕ) (o : WalkingFields) (t : Transaction) (seen : View)
      → Stage (one_key context) Runs request (suc n) p o t seen → n ≤ 3 → AreOwnSteps (one_key context) t seen steps → Third (one_key context) Is p Splits NoRoom n steps
  to_third steps zero o t seen stage few own = inl (runner.ends (on_one o) t seen steps stage.runs (stage.told refl) stage.left own)
  to_third [] (suc m) o t seen stage few own = inl tt
  to_third (step ∷ more) (suc m) o t seen stage few own =
      elim (runner.step (on_one o) t step stage.runs (stage.untold (omega arith)) own.1) [
        | inl waits ↦ ends_after (one_key context) Is _ _ Splits NoRoom step more (suc m) (suc m) (waits.waits (suc m))
            (to_third more (suc m) o step.after (view_in step.after step.new) (still_stage (one_key context) Runs request (suc (suc m)) p o t seen step stage waits.runs (waits.same ∙ own.0)) few own.2)
        | inr (inr away) ↦ inr (inl (refused_in m step.told (answers_of more) away.refused, λ first. away.later (stage.in_pass ∙ first)))
        | inr (inl going) ↦
            let goes = goes_on_one (one_key context) Runs o t step going in
            elim goes.tells [
              | inl on ↦
                  let one = one_fewer_after (one_key context) (suc (suc m)) o goes.next t seen step own.0 stage.left (omega (arith, few)) on in
                  let left : steps_of_walk context.root goes.next.walk (view_in step.after step.new) ≡ suc m = omega (arith, one) in
                  ends_after (one_key context) Is _ _ Splits NoRoom step more m (suc m) (one_more step.told m going.going)
                  (to_third more m goes.next step.after (view_in step.after step.new)
                  (rw left at (on_stage (one_key context) Runs request (suc (suc m)) p o t seen step stage goes on.request on.how.in_pass on.operates)) (omega (arith, few)) own.2)
              | inr (inl splits) ↦
                  let first : m ≡ 0 = omega (arith, stage.left, last_to_bucket context.root o.walk seen splits.how.splits.reaches.last) in
                  rw first (inr (inr (inl (
                    turn_here (one_key context) Splits step more t going.going (splitting (suc (suc m)) o t seen step more stage goes splits own.2) own.2,
                    λ is. splits.later (stage.in_pass ∙ is),
                  ))))
              | inr (inr again) ↦
                  let first : m ≡ 0 = omega (arith, stage.left, last_to_bucket context.root o.walk seen again.how.reaches.last) in
                  rw first (inr (inr (inr (turn_here (one_key context) NoRoom step more t going.going (no_room (suc (suc m)) o t seen step more stage goes again own.2) own.2))))
            ]
      ]

  -- **From its start.**
  pub from_start : (o : WalkingFields) (t : Transaction) (seen : View) (steps : List OwnStep) → Runs (on_one o) t → o.request ≡ request → o.walk.pass ≡ p → o.walk.phase ≡ Phase.Start → o.reply ≡ None
      → AreOwnSteps (one_key context) t seen steps → Third (one_key context) Is p Splits NoRoom 3 steps
  from_start o t seen steps runs asked in_pass start untold own = to_third steps 3 o t seen (record {
    runs = runs;
    asked = asked;
    in_pass = in_pass;
    left = ap (λ (q : Phase). left_at q context.root o.walk seen) start;
    told = λ (last : 4 ≡ 1). absurd (omega (arith, last));
    untold = λ some. untold;
  }) (omega arith) own
