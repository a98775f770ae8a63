-- What a try to step or to call the transaction of a number answers
use Rattle.std.proofs.Common.{◌≡◌, ℕ, Some, None, Result, Ok, Err, OnOk, OnErr, IfErr, length, get_or, List, refl, sym, ap, subst, ◌∙◌, position}
use Rattle.std.specs.FinMap as map
use Rattle.mlt_types.specs.declared.refusal.Refusal.{Refusal}
use Rattle.mlt_tx.proofs.Names.{ObjOp, SharedState, At, Transaction, IsPending, IsUndoing, TxSlot, Table, IsBusy, is_slot_of, table_of}
use Rattle.mlt_tx.{specs.declared.activity.ActivityState.ActivityState, specs.Tables.CallsNone, specs.Tables.CallsOne, proofs.TxSlots.none_sits, proofs.TxSlots.who_sits}
use Rattle.mlt_tx.specs.OpenAt.{IsIdleWith, IsNotOpen, IsOpenAt, MayCallOne, TriesCall}

pending_is_busy : (a : At) → IsPending a → IsBusy a
pending_is_busy At.Idle is = is
pending_is_busy other is = tt

undoing_is_busy : (a : At) → IsUndoing a → IsBusy a
undoing_is_busy At.Idle is = is
undoing_is_busy other is = tt

-- what is not idle is busy
pub busy_unless_idle : (s : ActivityState) (a : At) → (s ≡ ActivityState.Idle → ⊥) → (s ≡ ActivityState.Pending → IsPending a) → (s ≡ ActivityState.Undoing → IsUndoing a) → IsBusy a
busy_unless_idle ActivityState.Idle a not pending undoing = absurd (not refl)
busy_unless_idle ActivityState.Pending a not pending undoing = pending_is_busy a (pending refl)
busy_unless_idle ActivityState.Undoing a not pending undoing = undoing_is_busy a (undoing refl)

-- where no slot was found, it is not open
pub not_found : (slots looked : List TxSlot) (table : Table) (tx : ℕ) → table_of slots ≡ table → looked ≡ slots → None ≡ position (is_slot_of tx) looked → IsNotOpen table tx
not_found slots looked table tx view look none = ap (λ (t : Table). map.get t tx) (sym view) ∙ none_sits slots looked tx look none

-- else it is who lies there
module _ (slots looked : List TxSlot) (table : Table) (tx i : ℕ) (slot : TxSlot) (one : Transaction) (view : table_of slots ≡ table) (look : looked ≡ slots) (place : Some i ≡ position (is_slot_of tx) looked) (is : slot ≡ get_or slots i slot) (boxed : one ≡ slot.transaction.value) where
  pub found_there : map.get table tx ≡ Some one
  found_there =
      ap (λ (t : Table). map.get t tx) (sym view) ∙ who_sits slots looked tx i slot look place ∙ ap (λ (s : TxSlot). Some s.transaction.value) (sym is) ∙ ap Some (sym boxed)

  pub found_at : (Is : At → Type 0) → Is one.at → IsOpenAt table tx Is
  found_at Is fits = record { one = one; there = found_there; is_at = fits }

  -- looked at twice
  pub found_idle : (again : Transaction) (count : ℕ) → again ≡ slot.transaction.value → one.at ≡ At.Idle → count ≡ length again.undo.entries → IsIdleWith table tx count
  found_idle again count boxed_again idle counts =
      record { one = one; there = found_there; idle = idle; counts = ap (λ (t : Transaction). length t.undo.entries) (boxed ∙ sym boxed_again) ∙ sym counts }

-- one that may be called is called, or there is no memory
pub call_tried : (tx : ℕ) (op : ObjOp) (max_ops : ℕ) (old new : Table) (shared shared' : SharedState) (r : Result (Unit {0}) Refusal) → MayCallOne old tx max_ops
    → OnOk r (CallsOne tx op old new shared shared') → OnErr r (CallsNone tx old new shared shared') → IfErr r (λ reason. reason ≡ Refusal.OutOfMemory) → TriesCall tx op max_ops old new shared shared' r
call_tried tx op max_ops old new shared shared' (Ok done) may calls none memory = (may, calls)
call_tried tx op max_ops old new shared shared' (Err reason) may calls none memory =
    subst (λ r. TriesCall tx op max_ops old new shared shared' (Err r)) (sym memory) (may, none)
