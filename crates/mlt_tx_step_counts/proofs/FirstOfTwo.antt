-- The steps of a first pass on two records, one after another: of an inverse too, and of an operation that is pending
use Rattle.std.proofs.Common.{ℕ, suc, ◌≡◌, ◌≤◌, ◌⊎◌, IsSome, List, [], ◌∷◌, refl, ap, ◌∙◌, inl, inr, arith}
use Rattle.mlt_tx_step_counts.proofs.Names.{ObjOp, ObjReply, Request, Do, size_key_of, target_of, local, View, PairFields, find_by, least_steps, most_steps, WalkContext, WalkFields, one_key, TwoRecordWalk, First, Owing, Wide, WideStage, GoesOnBy, TellsLast, wide_to, Two, OperationFields, access_path_for, started_for, Answer, At, Transaction, IsDoneOrBlocked, started_wide, AreOwnSteps, GoesThen, GoesToTurn, OwnStep, answers_of, context_at, view_in, TakesWidePassOfTwo}
use Rattle.mlt_tx_two_records.specs.TwoRecordWalks as walks
use Rattle.mlt_tx_two_records.specs.FirstPass.{FindsNoRoom, StepsToBuckets, WasLast}
use Rattle.mlt_tx_step_counts.{specs.CountsOfTwo.FindsBoth, specs.CountsOfTwo.TakesFirstPassOfTwo, specs.OwnSteps.GoesBelow, proofs.WideOfTwo.wide_of_two}
use Rattle.mlt_tx_step_counts.proofs.Answers.{IsWait, goings_after, one_more, then_after, turn_after, turn_here}
use Rattle.mlt_tx_step_counts.proofs.PendingSteps.{Pends, Runner, pending_runner, some_of}
use Rattle.mlt_tx_step_counts.proofs.StagesOfTwo.{IsReady, StandsAt, end_comes_of_two, pending_at, step_of_two}

-- What becomes of a pass that has both buckets: all is written, and the end comes; or the change of the earlier one is left, and it
-- comes a step later; or there is no room, and a wide pass begins.
abbrev pub Found : WalkContext → (OperationFields → Transaction → Type 0) → (Answer → Type 0) → Request → PairFields → Transaction → OwnStep → List OwnStep → Type 0
Found context Runs Is request pair t step more =
    GoesThen 0 Is (answers_of more)
    ⊎ ((pair' : PairFields) × (reply : ObjReply) × StandsAt Runs request (Owing pair' reply) step.after × GoesThen 1 Is (answers_of more))
    ⊎ ((walk : WalkFields) × StandsAt Runs request (Wide WideStage.Own walk) step.after
    × FindsNoRoom (context_at (one_key context) step) (local t.subtx step.old.pages) (local step.after.subtx step.new.pages) request pair × (walk ≡ wide_to (target_of request).0))

module _ (context : WalkContext) (Runs : OperationFields → Transaction → Type 0) (Is : Answer → Type 0) (runner : Runner (one_key context) Runs Is) (request : Request) where
  -- the write of the earlier bucket, and the end
  ends_owing : (pair : PairFields) (reply : ObjReply) (t : Transaction) (seen : View) (steps : List OwnStep) → StandsAt Runs request (Owing pair reply) t
      → AreOwnSteps (one_key context) t seen steps → GoesThen 1 Is (answers_of steps)
  ends_owing pair reply t seen [] s own = tt
  ends_owing pair reply t seen (step ∷ more) s own = elim (step_of_two (one_key context) Runs Is runner request (Owing pair reply) t step s own.1) [
    | inl waits ↦ then_after step.told 1 1 Is (answers_of more) (waits.waits 1) (ends_owing pair reply step.after (view_in step.after step.new) more waits.stands own.2)
    | inr (inl goes) ↦ absurd goes.how
    | inr (inr (inl tells)) ↦ then_after step.told 0 1 Is (answers_of more) (one_more step.told 0 tells.going)
        (end_comes_of_two (one_key context) Runs Is runner step.after (view_in step.after step.new) more tells.ready own.2)
    | inr (inr (inr away)) ↦ absurd (away.later tt)
  ]

  -- `Ends` is to be so from where the pair is: where there is no step; and before a step that waits, or that goes on, or that finds both
  module _ (Ends : PairFields → List OwnStep → Type 0) (none : (pair : PairFields) → 1 ≤ most_steps pair.left_descent pair.right_descent → Ends pair [])
      (waits_on : (pair : PairFields) (step : OwnStep) (more : List OwnStep) → IsWait step.told → Ends pair more → Ends pair (step ∷ more))
      (goes_on : (pair pair' : PairFields) (step : OwnStep) (more : List OwnStep) → step.told ≡ Answer.Going → StepsToBuckets pair pair' → Ends pair' more → Ends pair (step ∷ more))
      (finds : (pair : PairFields) (t : Transaction) (step : OwnStep) (more : List OwnStep) → StandsAt Runs request (First pair) t → step.told ≡ Answer.Going
      → AreOwnSteps (one_key context) step.after (view_in step.after step.new) more → WasLast pair → Found (one_key context) Runs Is request pair t step more → Ends pair (step ∷ more)) where
    module _ (pair : PairFields) (t : Transaction) (step : OwnStep) (more : List OwnStep) (s : StandsAt Runs request (First pair) t) (going : step.told ≡ Answer.Going)
        (own : AreOwnSteps (one_key context) step.after (view_in step.after step.new) more) where
      goes_from : ((pair' : PairFields) → StandsAt Runs request (First pair') step.after → 1 ≤ most_steps pair'.left_descent pair'.right_descent → Ends pair' more)
          → (after : TwoRecordWalk) → StandsAt Runs request after step.after → walks.Stands after (context_at (one_key context) step) request (view_in step.after step.new)
          → GoesOnBy (First pair) after (context_at (one_key context) step) (local t.subtx step.old.pages) (local step.after.subtx step.new.pages) request → Ends pair (step ∷ more)
      goes_from rest (First pair') s' holds on = goes_on pair pair' step more going on.1 (rest pair' s' holds.under_way)
      goes_from rest (Owing pair' reply) s' holds on =
          finds pair t step more s going own on.1 (inr (inl (pair', reply, s', ends_owing pair' reply step.after (view_in step.after step.new) more s' own)))
      goes_from rest (Wide WideStage.Own walk) s' holds on = finds pair t step more s going own on.0.last (inr (inr (walk, s', on.0, on.1)))
      goes_from rest (Wide WideStage.Size walk) s' holds none = absurd none

      tells_from : IsReady Runs step.after → (after : TwoRecordWalk) → TellsLast (First pair) after → Ends pair (step ∷ more)
      tells_from ready (First pair') last =
          finds pair t step more s going own last (inl (end_comes_of_two (one_key context) Runs Is runner step.after (view_in step.after step.new) more ready own))
      tells_from ready other none = absurd none

    pub to_end : (steps : List OwnStep) (pair : PairFields) (t : Transaction) (seen : View) → StandsAt Runs request (First pair) t
        → 1 ≤ most_steps pair.left_descent pair.right_descent → AreOwnSteps (one_key context) t seen steps → Ends pair steps
    to_end [] pair t seen s some own = none pair some
    to_end (step ∷ more) pair t seen s some own = elim (step_of_two (one_key context) Runs Is runner request (First pair) t step s own.1) [
      | inl waits ↦ waits_on pair step more waits.waits (to_end more pair step.after (view_in step.after step.new) waits.stands some own.2)
      | inr (inl goes) ↦ goes_from pair t step more s goes.going own.2 (λ pair' s' some'. to_end more pair' step.after (view_in step.after step.new) s' some' own.2)
          goes.after goes.stands goes.holds goes.how
      | inr (inr (inl tells)) ↦ tells_from pair t step more s tells.going own.2 tells.ready tells.after tells.how
      | inr (inr (inr away)) ↦ absurd (away.later tt)
    ]

-- ---- of a pending operation

-- a wide pass begins
begins_wide : (op : ObjOp) (walk : WalkFields) (t : Transaction) → walk ≡ wide_to (target_of (Do op)).0 → StandsAt Pends (Do op) (Wide WideStage.Own walk) t → t.at ≡ At.Pending (started_wide (Do op))
begins_wide op walk t is s =
    s.runs ∙ ap At.Pending (λ i. record { request = s.asked i; reply = s.untold i; access_path = (s.access_path ∙ ap (λ (w : WalkFields). Two (Wide WideStage.Own w)) is) i })

-- it has both buckets, and a wide pass may follow
abbrev FindsThen : WalkContext → ObjOp → Transaction → OwnStep → List OwnStep → Type 0
FindsThen context op = FindsBoth (one_key context) op (TakesWidePassOfTwo (one_key context))

-- how a first pass goes on from where the pair is, by the bounds of its steps to both buckets
abbrev EndsFrom : WalkContext → ObjOp → PairFields → List OwnStep → Type 0
EndsFrom context op pair steps =
    GoesBelow (most_steps pair.left_descent pair.right_descent) (answers_of steps)
    ⊎ ((n : ℕ) × (least_steps pair.left_descent pair.right_descent ≤ n) × (n ≤ most_steps pair.left_descent pair.right_descent)
    × GoesToTurn (one_key context) n (FindsThen (one_key context) op) steps)

module _ (context : WalkContext) (op : ObjOp) where
  waits_on : (pair : PairFields) (step : OwnStep) (more : List OwnStep) → IsWait step.told → EndsFrom (one_key context) op pair more → EndsFrom (one_key context) op pair (step ∷ more)
  waits_on pair step more waits (inl (k, few, goes)) = inl (k, few, goings_after step.told k k (answers_of more) (waits k) goes)
  waits_on pair step more waits (inr (n, some, few, turn)) = inr (n, some, few, turn_after (one_key context) (FindsThen (one_key context) op) step more n n (waits n) turn)

  goes_on : (pair pair' : PairFields) (step : OwnStep) (more : List OwnStep) → step.told ≡ Answer.Going → StepsToBuckets pair pair'
      → EndsFrom (one_key context) op pair' more → EndsFrom (one_key context) op pair (step ∷ more)
  goes_on pair pair' step more going near (inl (k, few, goes)) = inl (suc k, omega (arith, near.most, few), goings_after step.told k (suc k) (answers_of more) (one_more step.told k going) goes)
  goes_on pair pair' step more going near (inr (n, some, few, turn)) =
      inr (suc n, omega (arith, near.least, some), omega (arith, near.most, few), turn_after (one_key context) (FindsThen (one_key context) op) step more n (suc n) (one_more step.told n going) turn)

  -- at the step that finds both keys
  finds : (pair : PairFields) (t : Transaction) (step : OwnStep) (more : List OwnStep) → StandsAt Pends (Do op) (First pair) t → step.told ≡ Answer.Going
      → AreOwnSteps (one_key context) step.after (view_in step.after step.new) more
      → WasLast pair → Found (one_key context) Pends IsDoneOrBlocked (Do op) pair t step more → EndsFrom (one_key context) op pair (step ∷ more)
  finds pair t step more s going own last found = inr (
    1,
    last.least,
    last.most,
    turn_here (one_key context) (FindsThen (one_key context) op) step more t going (record {
      pair = pair;
      is_at = pending_at (Do op) (First pair) t s;
      ends = elim found [
        | inl ends ↦ inl ends
        | inr (inl (pair', reply, s', ends)) ↦ inr (inl (record { pair = pair'; reply = reply; still = pending_at (Do op) (Owing pair' reply) step.after s'; ends = ends }))
        | inr (inr (walk, s', none, is)) ↦
            let begins = begins_wide op walk step.after is s' in
            inr (inr (record { begins = begins; none = none; later = wide_of_two (one_key context) op step.after (view_in step.after step.new) more begins own }))
      ];
    }) own,
  )

  -- **A first pass on two records, and the wide one that may follow.**
  pub first_pass_of_two : (t : Transaction) (seen : View) (steps : List OwnStep) → IsSome (size_key_of (Do op)) → t.at ≡ At.Pending (started_for (Do op))
      → AreOwnSteps (one_key context) t seen steps → TakesFirstPassOfTwo (one_key context) op steps
  first_pass_of_two t seen steps two pending own =
      let size = some_of (size_key_of (Do op)) two in
      to_end (one_key context) Pends IsDoneOrBlocked (pending_runner (one_key context)) (Do op) (EndsFrom (one_key context) op) (λ pair some. inl (0, omega (arith, some), refl)) waits_on goes_on finds
      steps (find_by (target_of (Do op)).0 size.0) t seen
      (record { o = started_for (Do op); runs = pending; asked = refl; access_path = ap (access_path_for (Do op)) size.1; untold = refl }) (omega arith) own
