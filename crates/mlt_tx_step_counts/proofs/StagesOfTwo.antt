-- Where an operation on two records stands, and what its next step makes of that
use Rattle.std.proofs.Common.{ℕ, ◌≡◌, ◌⊎◌, List, Option, None, Some, IsSome, is_some, refl, sym, ap, subst, inl, inr}
use Rattle.mlt_tx_step_counts.proofs.Names.{ObjReply, Request, LocalState, local, View, WalkContext, one_key, TwoRecordWalk, First, Wide, WideStage, GoesOnBy, TellsLast, StepAnswer, AccessPath, One, Two, TellsOfStep, IsInFirst, OperationFields, Answer, Transaction, TellsOfTransaction, IsRefusal, IsPendingAt, AreOwnSteps, GoesThen, OwnStep, answers_of, context_at, view_in, IsDoneOrBlocked}
use Rattle.mlt_tx_two_records.specs.TwoRecordWalks as walks
use Rattle.mlt_tx_operation.specs.{Answers.TwoRecordRestarts, Operating.on_two, Operating.steps_by, Operating.steps_left}
use Rattle.mlt_tx_step_counts.proofs.{Answers.IsWait, PendingSteps.Pends, PendingSteps.Runner, PendingSteps.pending_runner}

restarts_go_on : (before after : TwoRecordWalk) (context : WalkContext) (old new : LocalState) (request : Request) → TwoRecordRestarts before after context old new request → GoesOnBy before after context old new request
restarts_go_on (First pair) (Wide WideStage.Own walk) context old new request r = r
restarts_go_on before after context old new request r = absurd r

-- An operation on two records runs, and is here; it was asked this, and is not told its reply.
pub record StandsAt (Runs : OperationFields → Transaction → Type 0) (request : Request) (two_records : TwoRecordWalk) (t : Transaction) : Type 0 where
  pub o : OperationFields
  pub runs : Runs o t
  pub asked : o.request ≡ request
  pub access_path : o.access_path ≡ Two two_records
  pub untold : o.reply ≡ None

-- It is told its reply: its next step is its end.
pub record IsReady (Runs : OperationFields → Transaction → Type 0) (t : Transaction) : Type 0 where
  pub o : OperationFields
  pub runs : Runs o t
  pub told : IsSome o.reply
  pub last : (root : ℕ) (view : View) → steps_left root o view ≡ 1

pub pending_at : (request : Request) (two_records : TwoRecordWalk) (t : Transaction) → StandsAt Pends request two_records t → IsPendingAt two_records t.at
pending_at request two_records t s = subst (IsPendingAt two_records) (sym s.runs) s.access_path

-- what a step makes of one that is not told its reply: it waits where it was, or goes on, or tells, or is refused
pub record WaitsAt (Runs : OperationFields → Transaction → Type 0) (request : Request) (two_records : TwoRecordWalk) (t : Transaction) (own : OwnStep) : Type 0 where
  pub waits : IsWait own.told
  pub same : view_in own.after own.new ≡ view_in t own.old
  pub stands : StandsAt Runs request two_records own.after

pub record GoesAt (context : WalkContext) (Runs : OperationFields → Transaction → Type 0) (request : Request) (before : TwoRecordWalk) (t : Transaction) (own : OwnStep) : Type 0 where
  pub going : own.told ≡ Answer.Going
  pub after : TwoRecordWalk
  pub stands : StandsAt Runs request after own.after
  pub holds : walks.Stands after (context_at (one_key context) own) request (view_in own.after own.new)
  pub how : GoesOnBy before after (context_at (one_key context) own) (local t.subtx own.old.pages) (local own.after.subtx own.new.pages) request

pub record TellsNow (Runs : OperationFields → Transaction → Type 0) (before : TwoRecordWalk) (own : OwnStep) : Type 0 where
  pub going : own.told ≡ Answer.Going
  pub after : TwoRecordWalk
  pub ready : IsReady Runs own.after
  pub how : TellsLast before after

pub record IsRefusedAt (two_records : TwoRecordWalk) (own : OwnStep) : Type 0 where
  pub refused : IsRefusal own.told
  pub later : walks.IsFirst two_records → ⊥

abbrev pub OutcomeOfTwo : WalkContext → (OperationFields → Transaction → Type 0) → Request → TwoRecordWalk → Transaction → OwnStep → Type 0
OutcomeOfTwo context Runs request two_records t own =
    WaitsAt Runs request two_records t own ⊎ GoesAt (one_key context) Runs request two_records t own ⊎ TellsNow Runs two_records own ⊎ IsRefusedAt two_records own

module _ (context : WalkContext) (Runs : OperationFields → Transaction → Type 0) (request : Request) (before : TwoRecordWalk) (t : Transaction) (own : OwnStep)
    (going : own.told ≡ Answer.Going) (next : OperationFields) (runs : Runs next own.after) where
  goes_on : (after : TwoRecordWalk) → next.access_path ≡ Two after → next.reply ≡ None → next.request ≡ request
      → walks.Stands after (context_at (one_key context) own) next.request (view_in own.after own.new)
      → GoesOnBy before after (context_at (one_key context) own) (local t.subtx own.old.pages) (local own.after.subtx own.new.pages) request → OutcomeOfTwo (one_key context) Runs request before t own
  goes_on after path untold same holds how = inr (inl (record {
    going = going;
    after = after;
    stands = record { o = next; runs = runs; asked = same; access_path = path; untold = untold };
    holds = subst (λ (r : Request). walks.Stands after (context_at (one_key context) own) r (view_in own.after own.new)) same holds;
    how = how;
  }))

  by_path : (path : AccessPath) (reply : Option ObjReply) → next.access_path ≡ path → next.reply ≡ reply
      → TellsOfStep (context_at (one_key context) own) (local t.subtx own.old.pages) (local own.after.subtx own.new.pages) (on_two request None before) (record next { reply = reply; access_path = path }) StepAnswer.Going
      → OutcomeOfTwo (one_key context) Runs request before t own
  by_path (Two after) None path untold (inl on) = goes_on after path untold on.request on.operates on.how
  by_path (Two after) None path untold (inr (inr again)) =
      goes_on after path untold again.request again.operates
      (restarts_go_on before after (context_at (one_key context) own) (local t.subtx own.old.pages) (local own.after.subtx own.new.pages) request again.how)
  by_path (Two after) (Some reply) path told (inl on) = inr (inr (inl (record {
    going = going;
    after = after;
    ready = record { o = next; runs = runs; told = ap is_some told; last = λ root view. λ i. steps_by (path i) root (told i) view };
    how = on.how;
  })))
  by_path (Two after) (Some reply) path told (inr (inr again)) = let none : Some reply ≡ None = again.untold.1 in cc
  by_path (Two after) reply path told (inr (inl splits)) = absurd splits.how
  by_path (One walk) reply path told (inl on) = absurd on.how
  by_path (One walk) reply path told (inr (inl splits)) = absurd splits.how
  by_path (One walk) reply path told (inr (inr again)) = absurd again.how

module _ (context : WalkContext) (Runs : OperationFields → Transaction → Type 0) (Is : Answer → Type 0) (runner : Runner (one_key context) Runs Is) where
  -- **A step of an operation on two records.**
  pub step_of_two : (request : Request) (two_records : TwoRecordWalk) (t : Transaction) (own : OwnStep) → StandsAt Runs request two_records t
      → TellsOfTransaction (context_at (one_key context) own) t own.after own.old own.new own.told → OutcomeOfTwo (one_key context) Runs request two_records t own
  step_of_two request two_records t own s tells = elim (runner.step s.o t own s.runs s.untold tells) [
    | inl waits ↦ inl (record {
      waits = waits.waits;
      same = waits.same;
      stands = record { o = s.o; runs = waits.runs; asked = s.asked; access_path = s.access_path; untold = s.untold };
    })
    | inr (inl goes) ↦
        let tells = subst (λ (x : OperationFields). TellsOfStep (context_at (one_key context) own) (local t.subtx own.old.pages) (local own.after.subtx own.new.pages) x goes.next StepAnswer.Going)
        (λ i. record { request = s.asked i; reply = s.untold i; access_path = s.access_path i }) goes.tells in
        by_path (one_key context) Runs request two_records t own goes.going goes.next goes.runs goes.next.access_path goes.next.reply refl refl tells
    | inr (inr away) ↦ inr (inr (inr (record { refused = away.refused; later = λ first. away.later (subst IsInFirst (sym s.access_path) first) })))
  ]

  -- **And the end of one that is told.**
  pub end_comes_of_two : (t : Transaction) (seen : View) (steps : List OwnStep) → IsReady Runs t → AreOwnSteps (one_key context) t seen steps → GoesThen 0 Is (answers_of steps)
  end_comes_of_two t seen steps ready own = runner.ends ready.o t seen steps ready.runs ready.told (ready.last context.root seen) own

pub pending_end : (context : WalkContext) (t : Transaction) (seen : View) (steps : List OwnStep) → IsReady Pends t → AreOwnSteps (one_key context) t seen steps
    → GoesThen 0 IsDoneOrBlocked (answers_of steps)
pending_end context = end_comes_of_two (one_key context) Pends IsDoneOrBlocked (pending_runner (one_key context))
