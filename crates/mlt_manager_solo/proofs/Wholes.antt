-- A whole operation of the transaction that alone is open
use Rattle.std.proofs.Common.{◌≡◌, ℕ, Option, None, Some, IsSome, Err, refl, sym, ap, subst, ◌∙◌}
use Rattle.std.specs.FinMap as map
use Rattle.mlt_manager_solo.proofs.Names.{Refusal, ObjOp, ObjReply, Answer, At, Transaction, Table, AnswersCall, IsByAnother, IsIdle, IsOpenAt, IsUndoing, ManagerFields, one_there, HasOneIdle, CanMark}
use Rattle.mlt_tx.specs.Transactions.{IsPending}
use Rattle.mlt_manager.specs.{Answers.IsNotIdle, Wholes.DropsIfItStands, Wholes.HasRun, Wholes.LetsGoOn, Wholes.Stops}
use Rattle.mlt_manager_solo.proofs.Steps.{StaysBeside, beside_both, beside_same, changed_beside, changed_here, done_idles, refused_idles, step_beside, steps_beside}

idle_or : (IsOther : At → Type 0) → (IsOther At.Idle → ⊥) → (a : At) → IsIdle a → IsOther a → ⊥
idle_or IsOther never At.Idle is also = never also
idle_or IsOther never other none also = none

-- what an idle transaction is not
pub idle_is_idle : (reason : Refusal) (txs : Table) (tx : ℕ) → IsOpenAt txs tx IsIdle → IsNotIdle reason txs tx → ⊥
idle_is_idle Refusal.NoSuchTx txs tx idle none = let both : Some idle.one ≡ None = sym idle.there ∙ none in cc
idle_is_idle Refusal.Undoing txs tx idle undoing =
    idle_or IsUndoing (λ none. none) idle.one.at idle.is_at (subst (λ (t : Transaction). IsUndoing t.at) (one_there txs tx undoing.one idle.one undoing.there idle.there) undoing.is_at)
idle_is_idle Refusal.Running txs tx idle pending =
    idle_or IsPending (λ none. none) idle.one.at idle.is_at (subst (λ (t : Transaction). IsPending t.at) (one_there txs tx pending.one idle.one pending.there idle.there) pending.is_at)
idle_is_idle other txs tx idle none = none

module _ {P : Type 0} (bits_of : P → ℕ → ℕ) (old new : ManagerFields P) (tx : ℕ) (op : ObjOp) (told : Answer) (r : HasRun bits_of old new tx op told) where
  dropped_beside : (t : Answer) → DropsIfItStands t r.runs.stopped new tx → StaysBeside r.runs.stopped new tx
  dropped_beside (Answer.Waiting page by) d = changed_beside r.runs.stopped new tx d.cancels.changes d.rest
  dropped_beside (Answer.Blocked by) d = changed_beside r.runs.stopped new tx d.cancels.changes d.rest
  dropped_beside other same = beside_same r.runs.stopped new tx same

  -- **Whatever it is told, nobody else has changed.**
  pub run_beside : StaysBeside old new tx
  run_beside =
      let s = r.runs.steps in
      beside_both (changed_beside old r.called tx r.calls.calls.changes r.calls.rest)
      (beside_both (steps_beside bits_of LetsGoOn r.called s.before tx s.steps s.goes) (beside_both (step_beside bits_of s.before r.runs.stopped tx told s.ends) (dropped_beside told r.runs.drops)))

-- **An operation that is done or refused leaves its transaction at nothing.**
pub run_done_idle : {P : Type 0} (bits_of : P → ℕ → ℕ) (old new : ManagerFields P) (tx : ℕ) (op : ObjOp) (reply : ObjReply) → HasRun bits_of old new tx op (Answer.Done reply) → IsOpenAt new.txs tx IsIdle
run_done_idle bits_of old new tx op reply r =
    subst (λ (n : ManagerFields _). IsOpenAt n.txs tx IsIdle) (sym r.runs.drops) (done_idles bits_of r.runs.steps.before r.runs.stopped tx reply r.runs.steps.ends)

pub run_refused_idle : {P : Type 0} (bits_of : P → ℕ → ℕ) (old new : ManagerFields P) (tx : ℕ) (op : ObjOp) (reason : Refusal) → HasRun bits_of old new tx op (Answer.Refused reason)
    → IsOpenAt new.txs tx IsIdle × CanMark reason
run_refused_idle bits_of old new tx op reason r =
    let idle = refused_idles bits_of r.runs.steps.before r.runs.stopped tx reason r.runs.steps.ends in
    (subst (λ (n : ManagerFields _). IsOpenAt n.txs tx IsIdle) (sym r.runs.drops) idle.0, idle.1)

-- **It stands behind nobody.**
pub stands_behind_nobody : {P : Type 0} (bits_of : P → ℕ → ℕ) (old new : ManagerFields P) (tx : ℕ) (told : Answer) → HasOneIdle bits_of old tx → StaysBeside old new tx → IsByAnother told new.txs tx
    → ((reply : ObjReply) → told ≡ Answer.Done reply → ⊥) → ((reason : Refusal) → told ≡ Answer.Refused reason → ⊥) → Stops told → ⊥
stands_behind_nobody bits_of old new tx (Answer.Waiting page by) one beside another not_done not_refused stops =
    let none : map.get new.txs by ≡ None = beside.others by another.0 ∙ one.alone by another.0 in
    let both : Some another.1.one ≡ None = sym another.1.there ∙ none in cc
stands_behind_nobody bits_of old new tx (Answer.Blocked by) one beside another not_done not_refused stops =
    let none : map.get new.txs by ≡ None = beside.others by another.0 ∙ one.alone by another.0 in
    cc (subst (λ (o : Option Transaction). IsSome o) none another.1)
stands_behind_nobody bits_of old new tx (Answer.Done reply) one beside another not_done not_refused stops = not_done reply refl
stands_behind_nobody bits_of old new tx (Answer.Refused reason) one beside another not_done not_refused stops = not_refused reason refl
stands_behind_nobody bits_of old new tx other one beside another not_done not_refused stops = stops

-- an operation that is refused at its call
pub call_refused : {P : Type 0} (bits_of : P → ℕ → ℕ) (old new : ManagerFields P) (tx : ℕ) (op : ObjOp) (reason : Refusal) → IsOpenAt old.txs tx IsIdle → AnswersCall old new tx op (Err reason)
    → IsOpenAt new.txs tx IsIdle × (new.shared.history.items ≡ old.shared.history.items) × StaysBeside old new tx × CanMark reason
call_refused bits_of old new tx op Refusal.OutOfMemory idle a =
    let none = a.1 in
    let ch = none.changes in
    let same : ch.before ≡ idle.one = one_there old.txs tx ch.before idle.one ch.was idle.there in
    let at_nothing : IsIdle ch.after.at = subst IsIdle (sym (none.tells.idle ∙ ap (λ (t : Transaction). t.at) same)) idle.is_at in (
      record { one = ch.after; there = changed_here tx old.txs new.txs ch; is_at = at_nothing },
      none.tells.makes.items,
      changed_beside old new tx ch a.2,
      tt,
    )
call_refused bits_of old new tx op Refusal.LogFull idle a = (
  subst (λ (n : ManagerFields _). IsOpenAt n.txs tx IsIdle) (sym a.1) idle,
  ap (λ (n : ManagerFields _). n.shared.history.items) a.1,
  beside_same old new tx a.1,
  tt,
)
call_refused bits_of old new tx op other idle a = absurd (idle_is_idle other old.txs tx idle a.0)
