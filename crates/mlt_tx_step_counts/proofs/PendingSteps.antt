-- What a step makes of an operation that a transaction runs, on one record or on two; and the steps of one that is pending
use Rattle.std.proofs.Common.{◌≡◌, ◌⊎◌, List, [], ◌∷◌, Option, None, Some, IsSome, is_some, refl, sym, ap, subst, ◌∙◌, inl, inr}
use Rattle.mlt_tx_step_counts.proofs.Names.{local, View, view_of, WalkContext, one_key, StepAnswer, TellsOfStep, IsInFirst, OperationFields, Answer, At, Transaction, TellsAt, TellsOfTransaction, IsDoneOrBlocked, IsRefusal, AreOwnSteps, GoesThen, OwnStep, answers_of, context_at, view_in}
use Rattle.mlt_tx_operation.specs.Operating.{steps_left}
use Rattle.mlt_tx.specs.{declared.shared.SharedState.SharedState, Transactions.StepsPending}
use Rattle.mlt_tx_step_counts.proofs.Answers.{IsWait, ended_then, is_wait}

-- A transaction runs an operation: of both `Runs` is so. The operation is told Going
pub record Goes (context : WalkContext) (Runs : OperationFields → Transaction → Type 0) (o : OperationFields) (t : Transaction) (own : OwnStep) : Type 0 where
  pub going : own.told ≡ Answer.Going
  pub next : OperationFields
  pub runs : Runs next own.after
  pub tells : TellsOfStep (context_at (one_key context) own) (local t.subtx own.old.pages) (local own.after.subtx own.new.pages) o next StepAnswer.Going

-- it is told to wait, and stands where it stood
pub record Stays (Runs : OperationFields → Transaction → Type 0) (o : OperationFields) (t : Transaction) (own : OwnStep) : Type 0 where
  pub waits : IsWait own.told
  pub runs : Runs o own.after
  pub same : view_in own.after own.new ≡ view_in t own.old

-- it is refused, in a later pass than the first
pub record IsTurnedAway (o : OperationFields) (own : OwnStep) : Type 0 where
  pub refused : IsRefusal own.told
  pub later : IsInFirst o.access_path → ⊥

abbrev pub Outcome : WalkContext → (OperationFields → Transaction → Type 0) → OperationFields → Transaction → OwnStep → Type 0
Outcome context Runs o t own = Stays Runs o t own ⊎ Goes (one_key context) Runs o t own ⊎ IsTurnedAway o own

-- What its steps come to: before its reply is told, and at its end, of which `Is` is so.
pub record Runner (context : WalkContext) (Runs : OperationFields → Transaction → Type 0) (Is : Answer → Type 0) : Type 0 where
  pub step : (o : OperationFields) (t : Transaction) (own : OwnStep) → Runs o t → o.reply ≡ None
      → TellsOfTransaction (context_at (one_key context) own) t own.after own.old own.new own.told → Outcome (one_key context) Runs o t own
  pub ends : (o : OperationFields) (t : Transaction) (seen : View) (steps : List OwnStep) → Runs o t → IsSome o.reply → steps_left context.root o seen ≡ 1
      → AreOwnSteps (one_key context) t seen steps → GoesThen 0 Is (answers_of steps)

pub not_both : {A B : Type 0} (o : Option B) → IsSome o → o ≡ None → A
not_both None is none = cc
not_both (Some x) is none = cc

pub some_of : {A : Type 0} (o : Option A) → IsSome o → (x : A) × (o ≡ Some x)
some_of None none = cc
some_of (Some x) some = (x, refl)

-- ---- one that is pending

abbrev pub Pends : OperationFields → Transaction → Type 0
Pends o t = t.at ≡ At.Pending o

module _ (context : WalkContext) (o : OperationFields) (t : Transaction) (own : OwnStep) where
  pending_step : Pends o t → TellsOfTransaction (context_at (one_key context) own) t own.after own.old own.new own.told
      → StepsPending (context_at (one_key context) own) o t own.after own.old own.new own.told
  pending_step pending tells = subst (λ (a : At). TellsAt a (context_at (one_key context) own) t own.after own.old own.new own.told) pending tells

  by_answer : (told : Answer) → own.told ≡ told → o.reply ≡ None → StepsPending (context_at (one_key context) own) o t own.after own.old own.new told → Outcome (one_key context) Pends o t own
  by_answer Answer.Going is untold s = inr (inl (record {
    going = is;
    next = s.next;
    runs = s.now_at;
    tells = subst (λ (c : SharedState). TellsOfStep (context_at (one_key context) own) (local t.subtx own.old.pages) (local own.after.subtx c.pages) o s.next StepAnswer.Going) (sym s.leaves) s.tells.tells;
  }))
  by_answer (Answer.Waiting page by) is untold s = inl (record {
    waits = is_wait own.told page by is;
    runs = s.now_at ∙ ap At.Pending s.tells.tells.stays;
    same = ap (λ (c : SharedState). view_in own.after c) s.leaves ∙ ap view_of s.tells.tells.pages;
  })
  by_answer (Answer.Refused reason) is untold s = inr (inr (record { refused = subst IsRefusal (sym is) tt; later = s.tells.tells.later }))
  by_answer (Answer.Done reply) is untold s = not_both o.reply (ap is_some s.tells.ready) untold
  by_answer (Answer.Blocked by) is untold s = not_both o.reply (ap is_some s.tells.0.ready) untold
  by_answer other is untold s = absurd s.tells

  last_answer : (told : Answer) → IsSome o.reply → StepsPending (context_at (one_key context) own) o t own.after own.old own.new told → IsDoneOrBlocked told
  last_answer (Answer.Done reply) ready s = tt
  last_answer (Answer.Blocked by) ready s = tt
  last_answer Answer.Going ready s = not_both o.reply ready s.tells.unready
  last_answer (Answer.Waiting page by) ready s = not_both o.reply ready s.tells.unready
  last_answer (Answer.Refused reason) ready s = not_both o.reply ready s.tells.unready
  last_answer other ready s = absurd s.tells

last_steps : (context : WalkContext) (o : OperationFields) (t : Transaction) (seen : View) (steps : List OwnStep) → Pends o t → IsSome o.reply
    → AreOwnSteps (one_key context) t seen steps → GoesThen 0 IsDoneOrBlocked (answers_of steps)
last_steps context o t seen [] pending ready own = tt
last_steps context o t seen (step ∷ more) pending ready own =
    ended_then step.told (answers_of more) (last_answer (one_key context) o t step step.told ready (pending_step (one_key context) o t step pending own.1))

-- **The steps of a pending operation.**
pub pending_runner : (context : WalkContext) → Runner (one_key context) Pends IsDoneOrBlocked
pending_runner context = record {
  step = λ o t own pending untold tells. by_answer (one_key context) o t own own.told refl untold (pending_step (one_key context) o t own pending tells);
  ends = λ o t seen steps pending ready last own. last_steps (one_key context) o t seen steps pending ready own;
}
