-- What steps of a transaction do to it, and beside it
use Rattle.std.proofs.Common.{◌≡◌, ◌≢◌, ◌≤◌, ℕ, List, [], ◌∷◌, None, Some, inl, inr, refl, sym, ap, subst, ◌∙◌}
use Rattle.std.proofs.lemmas.Bool.{cases_eq}
use Rattle.std.specs.FinMap as map
use Rattle.mlt_manager_solo.proofs.Names.{Refusal, ObjReply, Answer, At, Transaction, Table, inserted_elsewhere, inserted_here, removed_elsewhere, IsIdle, IsOpenAt, IsManager, ManagerFields, HasOne, HasOneIdle, IsAtRest, CanMark}
use Rattle.mlt_hash_access.specs.LocalStates.{LocalState}
use Rattle.mlt_hash.specs.Walks.{WalkContext, context_by}
use Rattle.mlt_object_base.specs.declared.request.Request.{Request}
use Rattle.mlt_tx_two_records.specs.declared.two_records.{TwoRecordWalk.TheVariants.Wide, WideStage.WideStage}
use Rattle.mlt_tx_operation.specs.{declared.access_path.AccessPath.AccessPath, declared.access_path.AccessPath.TheVariants.Two, Answers.CauseBy}
use Rattle.mlt_tx.specs.{declared.shared.SharedState.SharedState, Transactions.TellsAt, Tables.ChangesOne}
use Rattle.mlt_manager.specs.{Answers.ChangesOpen, Answers.HasStepped, Answers.txs_after, Chains.StepsBy}

-- no transaction but this one has changed, and neither has how many may be open, or how many have committed
pub record StaysBeside {P : Type 0} (old new : ManagerFields P) (tx : ℕ) : Type 0 where
  pub others : (i : ℕ) → i ≢ tx → map.get new.txs i ≡ map.get old.txs i
  pub limit : new.max_open ≡ old.max_open
  pub commits : new.commits ≡ old.commits

-- a manager of which one transaction alone is open, after an event of that one: it is open still, or is open no more
pub still_one : {P : Type 0} (bits_of : P → ℕ → ℕ) (old new : ManagerFields P) (tx : ℕ) → HasOneIdle bits_of old tx → IsManager bits_of new → IsOpenAt new.txs tx IsIdle → StaysBeside old new tx
    → HasOneIdle bits_of new tx
still_one bits_of old new tx one manager idle beside = record {
  manager = manager;
  one = idle;
  alone = λ i ne. beside.others i ne ∙ one.alone i ne;
  limit = subst (λ (n : ℕ). 1 ≤ n) (sym beside.limit) one.limit;
}

pub none_left : {P : Type 0} (bits_of : P → ℕ → ℕ) (IsThere : At → Type 0) (old new : ManagerFields P) (tx : ℕ) → HasOne bits_of IsThere old tx → IsManager bits_of new → map.get new.txs tx ≡ None
    → ((i : ℕ) → i ≢ tx → map.get new.txs i ≡ map.get old.txs i) → new.max_open ≡ old.max_open → IsAtRest bits_of new
none_left bits_of IsThere old new tx one manager gone others limit = record {
  manager = manager;
  nobody = λ i. elim (cases_eq i tx) [
    | inl here ↦ ap (λ (n : ℕ). map.get new.txs n) here ∙ gone
    | inr differ ↦ others i differ ∙ one.alone i differ
  ];
  limit = subst (λ (n : ℕ). 1 ≤ n) (sym limit) one.limit;
}

pub beside_same : {P : Type 0} (old new : ManagerFields P) (tx : ℕ) → new ≡ old → StaysBeside old new tx
beside_same old new tx same = record {
  others = λ i ne. ap (λ (n : ManagerFields _). map.get n.txs i) same;
  limit = ap (λ (n : ManagerFields _). n.max_open) same;
  commits = ap (λ (n : ManagerFields _). n.commits) same;
}

pub beside_both : {P : Type 0} {a b c : ManagerFields P} {tx : ℕ} → StaysBeside a b tx → StaysBeside b c tx → StaysBeside a c tx
beside_both one two = record { others = λ i ne. two.others i ne ∙ one.others i ne; limit = two.limit ∙ one.limit; commits = two.commits ∙ one.commits }

-- where one transaction is changed
pub changed_beside : {P : Type 0} (m m' : ManagerFields P) (tx : ℕ) → ChangesOne tx m.txs m'.txs → ChangesOpen m m' → StaysBeside m m' tx
changed_beside m m' tx changes rest = record {
  others = λ i ne. ap (λ (t : Table). map.get t i) changes.is ∙ inserted_elsewhere m.txs tx changes.after i ne;
  limit = ap (λ (n : ManagerFields _). n.max_open) rest;
  commits = ap (λ (n : ManagerFields _). n.commits) rest;
}

pub changed_here : (tx : ℕ) (old new : Table) (changes : ChangesOne tx old new) → map.get new tx ≡ Some changes.after
changed_here tx old new changes = ap (λ (t : Table). map.get t tx) changes.is ∙ inserted_here old tx changes.after

-- who is beside a transaction that takes a step, or is open no more
after_others : (told : Answer) (txs : Table) (tx i : ℕ) → i ≢ tx → map.get (txs_after told tx txs) i ≡ map.get txs i
after_others Answer.Aborted txs tx i ne = removed_elsewhere txs tx i ne
after_others other txs tx i ne = refl

-- why a step may be refused
can_mark_by : (reason : Refusal) (access_path : AccessPath) (context : WalkContext) (old mid : LocalState) (request : Request) → CauseBy access_path reason context old mid request → CanMark reason
can_mark_by Refusal.NoRoom access_path context old mid request cause = tt
can_mark_by Refusal.OutOfMemory access_path context old mid request cause = tt
can_mark_by other (Two (Wide WideStage.Size walk)) context old mid request (since, put, none) = absurd none
can_mark_by other access_path context old mid request none = absurd none

-- an operation that is done or refused leaves its transaction at nothing
done_at : (a : At) (context : WalkContext) (before after : Transaction) (old new : SharedState) (reply : ObjReply) → TellsAt a context before after old new (Answer.Done reply) → IsIdle after.at
done_at At.Idle context before after old new reply none = absurd none
done_at (At.Pending o) context before after old new reply s = subst IsIdle (sym s.now_at) tt
done_at (At.Undoing inverting) context before after old new reply s = absurd s.tells

refused_at : (a : At) (context : WalkContext) (before after : Transaction) (old new : SharedState) (reason : Refusal) → TellsAt a context before after old new (Answer.Refused reason) → IsIdle after.at × CanMark reason
refused_at At.Idle context before after old new reason none = absurd none
refused_at (At.Pending o) context before after old new reason s = (subst IsIdle (sym s.now_at) tt, can_mark_by reason o.access_path _ _ _ o.request s.tells.tells.cause)
refused_at (At.Undoing inverting) context before after old new reason s = absurd s.tells

-- one step
module _ {P : Type 0} (bits_of : P → ℕ → ℕ) (m m' : ManagerFields P) (tx : ℕ) where
  pub step_beside : (told : Answer) → HasStepped bits_of m m' tx told → StaysBeside m m' tx
  step_beside told d = record {
    others = λ i ne. ap (λ (n : ManagerFields P). map.get n.txs i) d.rest ∙ after_others told d.txs tx i ne ∙ ap (λ (t : Table). map.get t i) d.steps.changes.is
        ∙ inserted_elsewhere m.txs tx d.steps.changes.after i ne;
    limit = ap (λ (n : ManagerFields P). n.max_open) d.rest;
    commits = ap (λ (n : ManagerFields P). n.commits) d.rest;
  }

  there_still : (told : Answer) (d : HasStepped bits_of m m' tx told) → txs_after told tx d.txs ≡ d.txs → map.get m'.txs tx ≡ Some d.steps.changes.after
  there_still told d on =
      ap (λ (n : ManagerFields P). map.get n.txs tx) d.rest ∙ ap (λ (t : Table). map.get t tx) (on ∙ d.steps.changes.is) ∙ inserted_here m.txs tx d.steps.changes.after

  -- **One that is done leaves the transaction at nothing,** and so does one that is refused.
  pub done_idles : (reply : ObjReply) → HasStepped bits_of m m' tx (Answer.Done reply) → IsOpenAt m'.txs tx IsIdle
  done_idles reply d = record {
    one = d.steps.changes.after;
    there = there_still (Answer.Done reply) d refl;
    is_at = done_at d.steps.changes.before.at (context_by bits_of m.root m.active d.steps.changes.before.subtx.tx) d.steps.changes.before d.steps.changes.after m.shared m'.shared reply d.steps.tells;
  }

  pub refused_idles : (reason : Refusal) → HasStepped bits_of m m' tx (Answer.Refused reason) → IsOpenAt m'.txs tx IsIdle × CanMark reason
  refused_idles reason d =
      let r = refused_at d.steps.changes.before.at (context_by bits_of m.root m.active d.steps.changes.before.subtx.tx) d.steps.changes.before d.steps.changes.after m.shared m'.shared reason d.steps.tells in
      (record { one = d.steps.changes.after; there = there_still (Answer.Refused reason) d refl; is_at = r.0 }, r.1)

-- **Steps change no other transaction.**
pub steps_beside : {P : Type 0} (bits_of : P → ℕ → ℕ) (GoesOn : Answer → Type 0) (old last : ManagerFields P) (tx : ℕ) (steps : List (ManagerFields P × Answer)) → StepsBy bits_of GoesOn old steps last tx
    → StaysBeside old last tx
steps_beside bits_of GoesOn old last tx [] same = beside_same old last tx same
steps_beside bits_of GoesOn old last tx (one ∷ more) (first, on, later) =
    beside_both (step_beside bits_of old one.0 tx one.1 first) (steps_beside bits_of GoesOn one.0 last tx more later)
