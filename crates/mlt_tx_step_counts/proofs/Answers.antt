-- What one step more makes of what steps are told
use Rattle.std.proofs.Common.{ℕ, suc, ◌≡◌, ◌⊎◌, List, [], ◌∷◌, ◌++◌, refl, sym, ap, subst, ◌∙◌, inl, inr}
use Rattle.mlt_tx_step_counts.proofs.Names.{WalkContext, one_key, Answer, Transaction, IsDoneOrBlocked, IsRefusal, AreOwnSteps, GoesThen, GoesToTurn, GoesUpTo, OwnStep, answers_of, view_in, with_answer}
use Rattle.mlt_tx_step_counts.specs.OwnSteps.{goings}

-- told Done or Blocked, or refused, at once
pub ended_then : (told : Answer) (rest : List Answer) → IsDoneOrBlocked told → GoesThen 0 IsDoneOrBlocked (with_answer told rest)
ended_then (Answer.Done reply) rest is = tt
ended_then (Answer.Blocked by) rest is = tt
ended_then other rest is = absurd is

pub refused_in : (n : ℕ) (told : Answer) (rest : List Answer) → IsRefusal told → GoesUpTo (suc n) IsRefusal (with_answer told rest)
refused_in n (Answer.Refused reason) rest is = inl tt
refused_in n other rest is = absurd is

-- A step that is told to wait leaves the n answers behind it; and one that is told that it goes on makes one more of them.
abbrev pub Makes : Answer → ℕ → ℕ → Type 0
Makes Answer.Going n m = m ≡ suc n
Makes (Answer.Waiting page by) n m = m ≡ n
Makes other n m = ⊥

-- it is told to wait
abbrev pub IsWait : Answer → Type 0
IsWait told = (n : ℕ) → Makes told n n

pub is_wait : (told : Answer) (page by : ℕ) → told ≡ Answer.Waiting page by → IsWait told
is_wait told page by is n = subst (λ (a : Answer). Makes a n n) (sym is) refl

pub one_more : (told : Answer) (n : ℕ) → told ≡ Answer.Going → Makes told n (suc n)
one_more told n is = subst (λ (a : Answer). Makes a n (suc n)) (sym is) refl

pub goings_after : (told : Answer) (n m : ℕ) (rest : List Answer) → Makes told n m → rest ≡ goings n → with_answer told rest ≡ goings m
goings_after Answer.Going n m rest makes is = ap (λ (l : List Answer). Answer.Going ∷ l) is ∙ ap goings (sym makes)
goings_after (Answer.Waiting page by) n m rest makes is = is ∙ ap goings (sym makes)
goings_after other n m rest makes is = absurd makes

pub then_after : (told : Answer) (n m : ℕ) (Is : Answer → Type 0) (rest : List Answer) → Makes told n m → GoesThen n Is rest → GoesThen m Is (with_answer told rest)
then_after Answer.Going n m Is rest makes then = subst (λ (k : ℕ). GoesThen k Is (Answer.Going ∷ rest)) (sym makes) (refl, then)
then_after (Answer.Waiting page by) n m Is rest makes then = subst (λ (k : ℕ). GoesThen k Is rest) (sym makes) then
then_after other n m Is rest makes then = absurd makes

pub up_to_after : (told : Answer) (n m : ℕ) (rest : List Answer) → Makes told n m → GoesUpTo n IsRefusal rest → GoesUpTo m IsRefusal (with_answer told rest)
up_to_after Answer.Going n m rest makes up_to = subst (λ (k : ℕ). GoesUpTo k IsRefusal (Answer.Going ∷ rest)) (sym makes) (inr (refl, up_to))
up_to_after (Answer.Waiting page by) n m rest makes up_to = subst (λ (k : ℕ). GoesUpTo k IsRefusal rest) (sym makes) up_to
up_to_after other n m rest makes up_to = absurd makes

module _ (context : WalkContext) (Turns : Transaction → OwnStep → List OwnStep → Type 0) (step : OwnStep) (more : List OwnStep) where
  pub turn_after : (n m : ℕ) → Makes step.told n m → GoesToTurn (one_key context) n Turns more → GoesToTurn (one_key context) m Turns (step ∷ more)
  turn_after n m makes g = record {
    front = step ∷ g.front;
    before = g.before;
    last = g.last;
    back = g.back;
    parts = ap (λ (l : List OwnStep). step ∷ l) g.parts;
    goes = goings_after step.told n m (answers_of (g.front ++ g.last ∷ [])) makes g.goes;
    turns = g.turns;
    rest = g.rest;
  }

  -- the turn itself
  pub turn_here : (t : Transaction) → step.told ≡ Answer.Going → Turns t step more → AreOwnSteps (one_key context) step.after (view_in step.after step.new) more
      → GoesToTurn (one_key context) 1 Turns (step ∷ more)
  turn_here t goes turns rest = record {
    front = [];
    before = t;
    last = step;
    back = more;
    parts = refl;
    goes = ap (λ (a : Answer). with_answer a []) goes;
    turns = turns;
    rest = rest;
  }

-- How steps end with n answers more that it goes on: with one behind them of which `Is` is so; or refused by then, if P; or at a turn
-- of one kind, if Q, or of another.
module _ (context : WalkContext) (Is : Answer → Type 0) (P Q : Type 0) (Turns Others : Transaction → OwnStep → List OwnStep → Type 0) where
  abbrev pub EndsIn : ℕ → List OwnStep → Type 0
  EndsIn n steps =
      GoesThen n Is (answers_of steps)
      ⊎ (GoesUpTo n IsRefusal (answers_of steps) × P)
      ⊎ (GoesToTurn (one_key context) n Turns steps × Q)
      ⊎ GoesToTurn (one_key context) n Others steps

  pub ends_after : (step : OwnStep) (more : List OwnStep) (n m : ℕ) → Makes step.told n m → EndsIn n more → EndsIn m (step ∷ more)
  ends_after step more n m makes (inl then) = inl (then_after step.told n m Is (answers_of more) makes then)
  ends_after step more n m makes (inr (inl (away, p))) = inr (inl (up_to_after step.told n m (answers_of more) makes away, p))
  ends_after step more n m makes (inr (inr (inl (turn, q)))) = inr (inr (inl (turn_after (one_key context) Turns step more n m makes turn, q)))
  ends_after step more n m makes (inr (inr (inr turn))) = inr (inr (inr (turn_after (one_key context) Others step more n m makes turn)))
