-- The steps of an abort, one after another, come to an end
use Rattle.std.proofs.Common.{◌≡◌, ◌<◌, ◌≤◌, ℕ, ◌+◌, ◌*◌, [], ◌∷◌, length, Option, None, Some, refl, sym, ap, subst, ◌∙◌, ◌⊎◌, inl, inr, arith, length-append}
use Rattle.std.specs.FinMap as map
use Rattle.mlt_manager.proofs.Names.{Undo, local, View, view_of, WalkContext, context_by, Request, OperationFields, started_for, Answer, SharedState, At, Transaction, TellsOfBack, StepsBack, TellsAt, tx_state_of, HasStepped, IsOpenAt, IsUndoing, txs_after, ManagerFields, GoesOnBack, StopsBack}
use Rattle.mlt_object_base.specs.{declared.request.Request.TheVariants.TakeBack, Requests.size_key_of}
use Rattle.mlt_tx_operation.specs.Operating.{access_path_for, steps_by, steps_left}
use Rattle.mlt_manager.specs.Undoings.{StepsBackUpTo}
use Rattle.mlt_manager.proofs.Chains.{IsUnderWay, found_before, last_taken, one_taken, there_after}

-- How many steps an abort still takes at most, those that wait aside: as many for each operation as one on two records takes
-- elsewhere, where a wide pass may follow its first one, but for what is done of the inverse that runs.
abbrev pub left_of : Option OperationFields → ℕ → Transaction → SharedState → ℕ
left_of None root t shared = 1165
left_of (Some o) root t shared = steps_left root o (view_of (local t.subtx shared.pages))

abbrev pub left_at : At → ℕ → Transaction → SharedState → ℕ
left_at (At.Undoing inverting) root t shared = 1166 * length t.undo.entries + left_of inverting root t shared
left_at other root t shared = 0

abbrev pub left_for : Option Transaction → ℕ → SharedState → ℕ
left_for None root shared = 0
left_for (Some t) root shared = left_at t.at root t shared

abbrev pub back_left : {P : Type 0} → ManagerFields P → ℕ → ℕ
back_left m tx = left_for (map.get m.txs tx) m.root.page m.shared

-- one that has taken no step has so many left at most
first_by : (size : Option ℕ) (root : ℕ) (request : Request) (view : View) → steps_by (access_path_for request size) root None view ≤ 1165
first_by None root request view = omega arith
first_by (Some size) root request view = omega arith

first_steps : (root : ℕ) (request : Request) (view : View) → steps_left root (started_for request) view ≤ 1165
first_steps root request view = first_by (size_key_of request) root request view

pub undoing_of_at : (a : At) → IsUndoing a → (inverting : Option OperationFields) × (a ≡ At.Undoing inverting)
undoing_of_at At.Idle none = absurd none
undoing_of_at (At.Pending o) none = absurd none
undoing_of_at (At.Undoing inverting) is = (inverting, refl)

-- one step of an abort
module _ {P : Type 0} (bits_of : P → ℕ → ℕ) (m m' : ManagerFields P) (tx : ℕ) (told : Answer) (undoing : IsOpenAt m.txs tx IsUndoing) (d : HasStepped bits_of m m' tx told) where
  abbrev before : Transaction
  before = d.steps.changes.before

  abbrev after : Transaction
  after = d.steps.changes.after

  inverse_at : (inverting : Option OperationFields) × (before.at ≡ At.Undoing inverting)
  inverse_at = undoing_of_at d.steps.changes.before.at (found_before bits_of GoesOnBack m m m' tx told IsUndoing undoing d)

  context_here : WalkContext
  context_here = context_by bits_of m.root m.active d.steps.changes.before.subtx.tx

  steps_back : StepsBack (context_by bits_of m.root m.active d.steps.changes.before.subtx.tx) inverse_at.0 d.steps.changes.before d.steps.changes.after m.shared m'.shared told
  steps_back =
      subst (λ (a : At). TellsAt a (context_by bits_of m.root m.active d.steps.changes.before.subtx.tx) d.steps.changes.before d.steps.changes.after m.shared m'.shared told) inverse_at.1 d.steps.tells

  was_left : back_left m tx ≡ 1166 * length d.steps.changes.before.undo.entries + left_of inverse_at.0 m.root.page d.steps.changes.before m.shared
  was_left = ap (λ (o : Option Transaction). left_for o m.root.page m.shared) d.steps.changes.was ∙ ap (λ (a : At). left_at a m.root.page d.steps.changes.before m.shared) inverse_at.1

  -- where it goes on, it is there still
  on_txs : (t : Answer) → GoesOnBack t → txs_after t tx d.txs ≡ d.txs
  on_txs Answer.Going goes = refl
  on_txs Answer.Undone goes = refl
  on_txs (Answer.Waiting page by) none = absurd none
  on_txs (Answer.Blocked by) none = absurd none
  on_txs (Answer.Done reply) none = absurd none
  on_txs Answer.Aborted none = absurd none
  on_txs (Answer.Refused reason) none = absurd none

  pub there_now : GoesOnBack told → map.get m'.txs tx ≡ Some d.steps.changes.after
  there_now goes = there_after bits_of GoesOnBack m m m' tx told d (on_txs told goes)

  pub still_undoing : GoesOnBack told → IsOpenAt m'.txs tx IsUndoing
  still_undoing goes = record { one = d.steps.changes.after; there = there_now goes; is_at = subst IsUndoing (sym steps_back.now_at) tt }

  now_left : GoesOnBack told → back_left m' tx ≡ 1166 * length d.steps.changes.after.undo.entries + left_of steps_back.next m.root.page d.steps.changes.after m'.shared
  now_left goes =
      ap (λ (o : Option Transaction). left_for o m'.root.page m'.shared) (there_now goes) ∙ ap (λ (a : At). left_at a m'.root.page d.steps.changes.after m'.shared) steps_back.now_at
      ∙ ap (λ (n : ManagerFields P). 1166 * length d.steps.changes.after.undo.entries + left_of steps_back.next n.root.page d.steps.changes.after m'.shared) d.rest

  fewer_by : (inverting next : Option OperationFields) (t : Answer) → TellsOfBack (context_by bits_of m.root m.active d.steps.changes.before.subtx.tx) inverting next (tx_state_of d.steps.changes.before m.shared) (tx_state_of d.steps.changes.after m'.shared) t
      → GoesOnBack t → 1166 * length d.steps.changes.after.undo.entries + left_of next m.root.page d.steps.changes.after m'.shared < 1166 * length d.steps.changes.before.undo.entries + left_of inverting m.root.page d.steps.changes.before m.shared
  fewer_by None next Answer.Going s goes =
      let same : length d.steps.changes.after.undo.entries ≡ length d.steps.changes.before.undo.entries = ap (λ (u : Undo). length u.entries) s.rest.undo_kept in
      let fewer = s.tells.fewer in
      let first = first_steps m.root.page (TakeBack s.last) (view_of (local d.steps.changes.before.subtx m.shared.pages)) in
      let here : left_of next m.root.page d.steps.changes.after m'.shared ≡ left_of (Some s.after) m.root.page d.steps.changes.after m'.shared = ap (λ (o : Option OperationFields). left_of o m.root.page d.steps.changes.after m'.shared) s.is in
      omega (arith, same, fewer, first, here)
  fewer_by (Some o) next Answer.Going s goes =
      let same : length d.steps.changes.after.undo.entries ≡ length d.steps.changes.before.undo.entries = ap (λ (u : Undo). length u.entries) s.rest.undo_kept in
      let fewer = s.tells.fewer in
      let here : left_of next m.root.page d.steps.changes.after m'.shared ≡ left_of (Some s.after) m.root.page d.steps.changes.after m'.shared = ap (λ (o : Option OperationFields). left_of o m.root.page d.steps.changes.after m'.shared) s.is in
      omega (arith, same, fewer, here)
  fewer_by inverting next Answer.Undone s goes =
      let off : length d.steps.changes.before.undo.entries ≡ length d.steps.changes.after.undo.entries + 1 = ap length s.takes.off.entries ∙ length-append d.steps.changes.after.undo.entries (s.takes.off.last ∷ []) in
      let here : left_of next m.root.page d.steps.changes.after m'.shared ≡ 1165 = ap (λ (o : Option OperationFields). left_of o m.root.page d.steps.changes.after m'.shared) s.none in
      omega (arith, off, here)
  fewer_by inverting next (Answer.Waiting page by) s none = absurd none
  fewer_by inverting next Answer.Aborted s none = absurd none
  fewer_by inverting next (Answer.Blocked by) s none = absurd none
  fewer_by inverting next (Answer.Done reply) s none = absurd none
  fewer_by inverting next (Answer.Refused reason) s none = absurd none

  -- **Fewer are left.**
  pub fewer_left : GoesOnBack told → back_left m' tx < back_left m tx
  fewer_left goes =
      let was = was_left in
      let is = now_left goes in
      let fewer = fewer_by inverse_at.0 steps_back.next told steps_back.tells goes in
      omega (arith, was, is, fewer)

  kept_by : (inverting next : Option OperationFields) → TellsOfBack (context_by bits_of m.root m.active d.steps.changes.before.subtx.tx) inverting next (tx_state_of d.steps.changes.before m.shared) (tx_state_of d.steps.changes.after m'.shared) Answer.Going
      → d.steps.changes.after.undo.entries ≡ d.steps.changes.before.undo.entries
  kept_by inverting next s = ap (λ (u : Undo). u.entries) s.rest.undo_kept

  -- a step that only goes on leaves what stands
  pub going_entries : told ≡ Answer.Going → d.steps.changes.after.undo.entries ≡ d.steps.changes.before.undo.entries
  going_entries is =
      kept_by inverse_at.0 steps_back.next
      (subst (λ (t : Answer). TellsOfBack (context_by bits_of m.root m.active d.steps.changes.before.subtx.tx) inverse_at.0 steps_back.next (tx_state_of d.steps.changes.before m.shared) (tx_state_of d.steps.changes.after m'.shared) t) is steps_back.tells)

  stops_by : (inverting next : Option OperationFields) (t : Answer) → TellsOfBack (context_by bits_of m.root m.active d.steps.changes.before.subtx.tx) inverting next (tx_state_of d.steps.changes.before m.shared) (tx_state_of d.steps.changes.after m'.shared) t
      → (t ≡ Answer.Going → ⊥) → (t ≡ Answer.Undone → ⊥) → StopsBack t
  stops_by inverting next Answer.Going s going undone = absurd (going refl)
  stops_by inverting next Answer.Undone s going undone = absurd (undone refl)
  stops_by inverting next (Answer.Waiting page by) s going undone = tt
  stops_by inverting next Answer.Aborted s going undone = tt
  stops_by inverting next other s going undone = absurd s

  -- **An abort that does not go on waits, or is at its end.**
  pub stops_here : (told ≡ Answer.Going → ⊥) → (told ≡ Answer.Undone → ⊥) → StopsBack told
  stops_here going undone = stops_by inverse_at.0 steps_back.next told steps_back.tells going undone

-- **One more step.**
pub back_on : {P : Type 0} (bits_of : P → ℕ → ℕ) (old m m' : ManagerFields P) (tx : ℕ) (told : Answer) → IsUnderWay bits_of GoesOnBack IsUndoing old m tx → HasStepped bits_of m m' tx told → GoesOnBack told
    → IsUnderWay bits_of GoesOnBack IsUndoing old m' tx
back_on bits_of old m m' tx told w d goes = one_taken bits_of GoesOnBack old m m' tx told IsUndoing w d goes (still_undoing bits_of m m' tx told w.is_at d goes)

-- **The step that stops.**
pub back_ends : {P : Type 0} (bits_of : P → ℕ → ℕ) (old m m' : ManagerFields P) (tx : ℕ) (told : Answer) → IsUnderWay bits_of GoesOnBack IsUndoing old m tx → HasStepped bits_of m m' tx told
    → (told ≡ Answer.Going → ⊥) → (told ≡ Answer.Undone → ⊥) → StepsBackUpTo bits_of old m' tx told
back_ends bits_of old m m' tx told w d going undone = last_taken bits_of GoesOnBack old m m' tx told IsUndoing StopsBack w d (stops_here bits_of m m' tx told w.is_at d going undone)

pub goes_by : (told : Answer) → (told ≡ Answer.Going) ⊎ (told ≡ Answer.Undone) → GoesOnBack told
goes_by told (inl is) = subst GoesOnBack (sym is) tt
goes_by told (inr is) = subst GoesOnBack (sym is) tt
