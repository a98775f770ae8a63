-- The steps of an inverse of an operation on two records
use Rattle.std.proofs.Common.{ℕ, zero, suc, ◌≡◌, ◌≤◌, ◌+◌, List, [], ◌∷◌, IsSome, refl, sym, ap, subst, inl, inr, arith}
use Rattle.mlt_tx_step_counts.proofs.Names.{ObjOp, ObjReply, TakeBack, inverse_of, size_key_of, target_of, View, PairFields, find_by, least_steps, most_steps, WalkContext, one_key, First, IsInFirst, access_path_for, started_for, Answer, Transaction, IsTakenBack, IsToTakeBack, AreOwnSteps, GoesThen, OwnStep, answers_of, view_in}
use Rattle.mlt_object_kinds.specs.declared.element.ElementOp.{ElementOp}
use Rattle.mlt_hash_pair.specs.declared.descent.Descent.{Descent}
use Rattle.mlt_tx_two_records.specs.FirstPass.{StepsToBuckets, WasLast}
use Rattle.mlt_tx_step_counts.{specs.CountsOfTwo.TakesBackInSeven, proofs.FirstOfTwo.Found, proofs.FirstOfTwo.to_end, proofs.PendingSteps.some_of, proofs.StagesOfTwo.StandsAt}
use Rattle.mlt_tx_step_counts.proofs.Answers.{IsWait, one_more, then_after}
use Rattle.mlt_tx_step_counts.proofs.BackSteps.{Inverts, inverse_runner, to_begin}

-- the two bounds
few_or_more : (left right : Descent) → least_steps left right ≤ most_steps left right
few_or_more Descent.Start other = omega arith
few_or_more (Descent.Headed place dir row) Descent.Start = omega arith
few_or_more (Descent.Placed dir bucket) Descent.Start = omega arith
few_or_more (Descent.AtBucket dir bucket found) Descent.Start = omega arith
few_or_more left right = omega arith

empty : (n : ℕ) → GoesThen n IsTakenBack []
empty zero = tt
empty (suc n) = tt

-- how it ends from where the pair is
abbrev EndsBack : PairFields → List OwnStep → Type 0
EndsBack pair steps =
    (n : ℕ) × (least_steps pair.left_descent pair.right_descent ≤ n) × (n ≤ most_steps pair.left_descent pair.right_descent + 1) × GoesThen n IsTakenBack (answers_of steps)

none_back : (pair : PairFields) → EndsBack pair []
none_back pair =
    let least = least_steps pair.left_descent pair.right_descent in
    (least, omega arith, omega (arith, few_or_more pair.left_descent pair.right_descent), empty least)

waits_on : (pair : PairFields) (step : OwnStep) (more : List OwnStep) → IsWait step.told → EndsBack pair more → EndsBack pair (step ∷ more)
waits_on pair step more waits (n, some, few, then) = (n, some, few, then_after step.told n n IsTakenBack (answers_of more) (waits n) then)

goes_on : (pair pair' : PairFields) (step : OwnStep) (more : List OwnStep) → step.told ≡ Answer.Going → StepsToBuckets pair pair' → EndsBack pair' more → EndsBack pair (step ∷ more)
goes_on pair pair' step more going near (n, some, few, then) =
    (suc n, omega (arith, near.least, some), omega (arith, near.most, few), then_after step.told n (suc n) IsTakenBack (answers_of more) (one_more step.told n going) then)

finds : (context : WalkContext) (last : ObjOp × ObjReply) (pair : PairFields) (t : Transaction) (step : OwnStep) (more : List OwnStep)
    → StandsAt (Inverts last) (TakeBack last) (First pair) t → step.told ≡ Answer.Going
    → AreOwnSteps (one_key context) step.after (view_in step.after step.new) more → WasLast pair
    → Found (one_key context) (Inverts last) IsTakenBack (TakeBack last) pair t step more → EndsBack pair (step ∷ more)
finds context last pair t step more s going own was found = elim found [
  | inl ends ↦ (1, omega (arith, was.least), omega (arith, was.most), then_after step.told 0 1 IsTakenBack (answers_of more) (one_more step.told 0 going) ends)
  | inr (inl (pair', reply, s', ends)) ↦ (2, omega (arith, was.least), omega (arith, was.most), then_after step.told 1 2 IsTakenBack (answers_of more) (one_more step.told 1 going) ends)
  | inr (inr (walk, s', none, is)) ↦ absurd (subst IsInFirst s'.access_path s'.runs.first)
]

-- what was done to two records has an inverse
has_inverse : (last : ObjOp × ObjReply) → IsSome (size_key_of (TakeBack last)) → IsSome (inverse_of last)
has_inverse (ObjOp.Element s e ElementOp.Add, ObjReply.Added) two = refl
has_inverse (ObjOp.Element s e ElementOp.Remove, ObjReply.Removed) two = refl
has_inverse other two = cc

-- **An inverse.**
pub taken_back_of_two : (context : WalkContext) (t : Transaction) (last : ObjOp × ObjReply) (seen : View) (steps : List OwnStep) → IsSome (size_key_of (TakeBack last)) → IsToTakeBack t last → AreOwnSteps (one_key context) t seen steps → TakesBackInSeven steps
taken_back_of_two context t last seen steps two to own =
    let size = some_of (size_key_of (TakeBack last)) two in
    to_end (one_key context) (Inverts last) IsTakenBack (inverse_runner (one_key context) last) (TakeBack last) EndsBack (λ pair some. none_back pair) waits_on goes_on (finds (one_key context) last)
    steps (find_by (target_of (TakeBack last)).0 size.0) t seen (record {
      o = started_for (TakeBack last);
      runs = to_begin t last (started_for (TakeBack last)) to (has_inverse last two) refl (subst IsInFirst (sym (ap (access_path_for (TakeBack last)) size.1)) tt);
      asked = refl;
      access_path = ap (access_path_for (TakeBack last)) size.1;
      untold = refl;
    }) (omega arith) own
