-- The steps of a pending operation, one after another, come to an end
use Rattle.std.proofs.Common.{◌≡◌, ◌<◌, ◌≤◌, ℕ, Option, None, Some, refl, sym, ap, subst, ◌∙◌, arith}
use Rattle.std.specs.FinMap as map
use Rattle.mlt_manager.proofs.Names.{ObjOp, local, view_of, context_by, OperationFields, Answer, SharedState, At, Transaction, TellsOfPending, IsPending, StepsPending, TellsAt, tx_state_of, Table, inserted_here, HasCalled, HasStepped, IsOpenAt, txs_after, IsManager, ManagerFields, DropsIfItStands, HasRun, LetsGoOn, StepsOnUpTo, Stops}
use Rattle.mlt_tx_operation.{specs.MostSteps.most_steps, proofs.MostSteps.one_fewer_at_least}
use Rattle.mlt_tx.specs.Transactions.{pending_after}
use Rattle.mlt_manager.{specs.Wholes.StandsIn, proofs.Called.called_keeps, proofs.Called.cancelled_keeps, proofs.Called.pending_of}
use Rattle.mlt_manager.proofs.Chains.{IsUnderWay, found_before, last_taken, one_taken, there_after, up_to_keeps}

-- how many steps the pending operation of the transaction still takes at most, those that wait aside
abbrev pub most_at : At → ℕ → Transaction → SharedState → ℕ
most_at (At.Pending o) root t shared = most_steps root o (view_of (local t.subtx shared.pages))
most_at other root t shared = 0

abbrev pub most_for : Option Transaction → ℕ → SharedState → ℕ
most_for None root shared = 0
most_for (Some t) root shared = most_at t.at root t shared

abbrev pub on_left : {P : Type 0} → ManagerFields P → ℕ → ℕ
on_left m tx = most_for (map.get m.txs tx) m.root.page m.shared

-- one step of a pending operation
module _ {P : Type 0} (bits_of : P → ℕ → ℕ) (m m' : ManagerFields P) (tx : ℕ) (told : Answer) (pending : IsOpenAt m.txs tx IsPending) (d : HasStepped bits_of m m' tx told) where
  pub operation_at : (o : OperationFields) × (d.steps.changes.before.at ≡ At.Pending o)
  operation_at = pending_of d.steps.changes.before.at (found_before bits_of LetsGoOn m m m' tx told IsPending pending d)

  pub steps_pending : StepsPending (context_by bits_of m.root m.active d.steps.changes.before.subtx.tx) operation_at.0 d.steps.changes.before d.steps.changes.after m.shared m'.shared told
  steps_pending =
      subst (λ (a : At). TellsAt a (context_by bits_of m.root m.active d.steps.changes.before.subtx.tx) d.steps.changes.before d.steps.changes.after m.shared m'.shared told) operation_at.1 d.steps.tells

  pub there_by : (t : Answer) → told ≡ t → txs_after t tx d.txs ≡ d.txs → map.get m'.txs tx ≡ Some d.steps.changes.after
  there_by t is on = there_after bits_of LetsGoOn m m m' tx told d (ap (λ (a : Answer). txs_after a tx d.txs) is ∙ on)

  pending_by : (t : Answer) → told ≡ t → txs_after t tx d.txs ≡ d.txs → pending_after t steps_pending.next ≡ At.Pending steps_pending.next → IsOpenAt m'.txs tx IsPending
  pending_by t is on stays = record {
    one = d.steps.changes.after;
    there = there_by t is on;
    is_at = subst IsPending (sym (steps_pending.now_at ∙ ap (λ (a : Answer). pending_after a steps_pending.next) is ∙ stays)) tt;
  }

  pub still_pending : told ≡ Answer.Going → IsOpenAt m'.txs tx IsPending
  still_pending is = pending_by Answer.Going is refl refl

  pub waiting_is_pending : (page by : ℕ) → told ≡ Answer.Waiting page by → IsOpenAt m'.txs tx IsPending
  waiting_is_pending page by is = pending_by (Answer.Waiting page by) is refl refl

  pub blocked_is_pending : (by : ℕ) → told ≡ Answer.Blocked by → IsOpenAt m'.txs tx IsPending
  blocked_is_pending by is = pending_by (Answer.Blocked by) is refl refl

  stops_by : (t : Answer) (between : SharedState) → TellsOfPending (context_by bits_of m.root m.active d.steps.changes.before.subtx.tx) operation_at.0 steps_pending.next (tx_state_of d.steps.changes.before m.shared) (tx_state_of d.steps.changes.after between) t
      → (t ≡ Answer.Going → ⊥) → Stops t
  stops_by Answer.Going between tells not = absurd (not refl)
  stops_by (Answer.Waiting page by) between tells not = tt
  stops_by (Answer.Blocked by) between tells not = tt
  stops_by (Answer.Done reply) between tells not = tt
  stops_by (Answer.Refused reason) between tells not = tt
  stops_by Answer.Undone between none not = absurd none
  stops_by Answer.Aborted between none not = absurd none

  -- **An operation that does not go on is at its end, or stands.**
  pub stops_here : (told ≡ Answer.Going → ⊥) → Stops told
  stops_here not = stops_by told steps_pending.between steps_pending.tells not

-- **One that goes on has fewer steps left.**
pub fewer_on : {P : Type 0} (bits_of : P → ℕ → ℕ) (m m' : ManagerFields P) (tx : ℕ) (pending : IsOpenAt m.txs tx IsPending) (d : HasStepped bits_of m m' tx Answer.Going) → m.root.max_depth ≤ 16
    → on_left m' tx < on_left m tx
fewer_on bits_of m m' tx pending d small =
    let before = d.steps.changes.before in
    let after = d.steps.changes.after in
    let o = operation_at bits_of m m' tx Answer.Going pending d in
    let s = steps_pending bits_of m m' tx Answer.Going pending d in
    let was : on_left m tx ≡ most_steps m.root.page o.0 (view_of (local d.steps.changes.before.subtx m.shared.pages)) =
    ap (λ (t : Option Transaction). most_for t m.root.page m.shared) d.steps.changes.was ∙ ap (λ (a : At). most_at a m.root.page d.steps.changes.before m.shared) o.1 in
    let is : on_left m' tx ≡ most_steps m.root.page s.next (view_of (local d.steps.changes.after.subtx s.between.pages)) =
    ap (λ (t : Option Transaction). most_for t m'.root.page m'.shared) (there_by bits_of m m' tx Answer.Going pending d Answer.Going refl refl)
    ∙ ap (λ (a : At). most_at a m'.root.page d.steps.changes.after m'.shared) s.now_at
    ∙ ap (λ (n : ManagerFields _). most_steps n.root.page s.next (view_of (local d.steps.changes.after.subtx m'.shared.pages))) d.rest
    ∙ ap (λ (k : SharedState). most_steps m.root.page s.next (view_of (local d.steps.changes.after.subtx k.pages))) s.leaves in
    let fewer = one_fewer_at_least (context_by bits_of m.root m.active d.steps.changes.before.subtx.tx) (local d.steps.changes.before.subtx m.shared.pages) (local d.steps.changes.after.subtx s.between.pages) o.0 s.next small s.tells.tells in
    omega (arith, was, is, fewer)

-- **One more step.**
pub on_by_one : {P : Type 0} (bits_of : P → ℕ → ℕ) (old m m' : ManagerFields P) (tx : ℕ) → IsUnderWay bits_of LetsGoOn IsPending old m tx → HasStepped bits_of m m' tx Answer.Going → IsUnderWay bits_of LetsGoOn IsPending old m' tx
on_by_one bits_of old m m' tx w d = one_taken bits_of LetsGoOn old m m' tx Answer.Going IsPending w d tt (still_pending bits_of m m' tx Answer.Going w.is_at d refl)

-- **The step that stops.**
pub on_ends : {P : Type 0} (bits_of : P → ℕ → ℕ) (old m m' : ManagerFields P) (tx : ℕ) (told : Answer) → IsUnderWay bits_of LetsGoOn IsPending old m tx → HasStepped bits_of m m' tx told → (told ≡ Answer.Going → ⊥)
    → StepsOnUpTo bits_of old m' tx told
on_ends bits_of old m m' tx told w d not = last_taken bits_of LetsGoOn old m m' tx told IsPending Stops w d (stops_here bits_of m m' tx told w.is_at d not)

-- the depth of a manager's directory is at most 16
pub is_small : {P : Type 0} (bits_of : P → ℕ → ℕ) (m : ManagerFields P) → IsManager bits_of m → m.root.max_depth ≤ 16
is_small bits_of m h = h.sound.match.file.small

-- what was called is pending
pub called_is_pending : {P : Type 0} (m m' : ManagerFields P) (tx : ℕ) (op : ObjOp) → HasCalled m m' tx op → IsOpenAt m'.txs tx IsPending
called_is_pending m m' tx op c = record {
  one = c.calls.changes.after;
  there = ap (λ (t : Table). map.get t tx) c.calls.changes.is ∙ inserted_here m.txs tx c.calls.changes.after;
  is_at = subst IsPending (sym c.calls.tells.pending) tt;
}

drops_keep : {P : Type 0} (bits_of : P → ℕ → ℕ) (told : Answer) (old new : ManagerFields P) (tx : ℕ) → IsManager bits_of old → DropsIfItStands told old new tx → IsManager bits_of new
drops_keep bits_of (Answer.Waiting page by) old new tx h d = (cancelled_keeps bits_of old h tx new d.rest d.pending d.cancels).0
drops_keep bits_of (Answer.Blocked by) old new tx h d = (cancelled_keeps bits_of old h tx new d.rest d.pending d.cancels).0
drops_keep bits_of other old new tx h same = subst (IsManager bits_of) (sym same) h

-- **A whole operation keeps what is always true.**
pub run_keeps : {P : Type 0} (bits_of : P → ℕ → ℕ) (old new : ManagerFields P) (tx : ℕ) (op : ObjOp) (told : Answer) → IsManager bits_of old → HasRun bits_of old new tx op told → IsManager bits_of new
run_keeps bits_of old new tx op told h r =
    drops_keep bits_of told r.runs.stopped new tx (up_to_keeps bits_of LetsGoOn tx Stops r.called r.runs.stopped told (called_keeps bits_of old h tx r.called r.calls.rest op r.calls) r.runs.steps) r.runs.drops

-- **An operation that stands is pending.**
pub stands_in : {P : Type 0} (bits_of : P → ℕ → ℕ) (m m' : ManagerFields P) (tx : ℕ) (told : Answer) → IsOpenAt m.txs tx IsPending → HasStepped bits_of m m' tx told → StandsIn m' tx told
stands_in bits_of m m' tx Answer.Going pending d = tt
stands_in bits_of m m' tx (Answer.Waiting page by) pending d = waiting_is_pending bits_of m m' tx (Answer.Waiting page by) pending d page by refl
stands_in bits_of m m' tx (Answer.Blocked by) pending d = blocked_is_pending bits_of m m' tx (Answer.Blocked by) pending d by refl
stands_in bits_of m m' tx (Answer.Done reply) pending d = tt
stands_in bits_of m m' tx Answer.Undone pending d = tt
stands_in bits_of m m' tx Answer.Aborted pending d = tt
stands_in bits_of m m' tx (Answer.Refused reason) pending d = tt

-- one that does not stand is not dropped
pub not_dropped : {P : Type 0} (told : Answer) (m : ManagerFields P) (tx : ℕ) → ((page by : ℕ) → told ≡ Answer.Waiting page by → ⊥) → ((by : ℕ) → told ≡ Answer.Blocked by → ⊥) → DropsIfItStands told m m tx
not_dropped (Answer.Waiting page by) m tx waiting blocked = absurd (waiting page by refl)
not_dropped (Answer.Blocked by) m tx waiting blocked = absurd (blocked by refl)
not_dropped other m tx waiting blocked = refl
