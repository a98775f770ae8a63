-- Steps of an inverse before its end
use Rattle.std.proofs.Common.{◌≡◌, ℕ, ◌+◌, List, [], ◌∷◌, ◌++◌, length, None, Option, Some, IsSome, refl, sym, ap, subst, ◌∙◌, arith}
use Rattle.std.specs.FinMap as map
use Rattle.mlt_manager_invariant.proofs.Names.{ObjOp, ObjReply, inverse_of, ItemsWithRoom, Undo, LocalState, local, view_of, AllRunning, local_of, context_of, TakeBack, starts, IsOperating, OperationFields, Answer, SharedState, At, Transaction, KeepsCleanPages, with_transaction, FitsAt, HasInverse, IsSound, State, all_of, is_undoing, pending_room, room_of, abstract_state_of}
use Rattle.mlt_order.proofs.Growing.{one_last}
use Rattle.mlt_tx_operation.specs.Answers.{StepsOn, Waits}
use Rattle.mlt_tx.specs.{Steps.InverseSteps, Steps.inverse_from, Transactions.StepsBack}
use Rattle.mlt_manager_invariant.proofs.{MaySteps.last_in_range, MaySteps.same_local, MaySteps.unheld, Turning.local_now, Turning.sound_after, Turning.stays_all, Turning.turns_all}

module _ (s : State) (i : ℕ) (inverting next : Option OperationFields) (before after : Transaction) (shared : SharedState)
    (sound : IsSound s) (was : map.get s.txs i ≡ Some before) (back_at : before.at ≡ At.Undoing inverting) (now_at : after.at ≡ At.Undoing next) where
  here : FitsAt (At.Undoing inverting) s i before
  here = subst (λ (a : At). FitsAt a s i before) back_at (sound.fits i before was).where_at

  -- the inverse that runs, or is to begin, has something to take back
  has_inverse : (front : List (ObjOp × ObjReply)) (last : ObjOp × ObjReply) → before.undo.entries ≡ front ++ last ∷ [] → (inverting ≡ None → IsSome (inverse_of last)) → IsSome (inverse_of last)
  has_inverse front last entries begins = by inverting refl here
    where
      by : (o : Option OperationFields) → inverting ≡ o → FitsAt (At.Undoing o) s i before → IsSome (inverse_of last)
      by None is fits = begins is
      by (Some o) is fits = subst (λ (x : ObjOp × ObjReply). IsSome (inverse_of x)) (one_last fits.front front fits.last last (sym fits.entries ∙ entries)) fits.has

  -- where it stands now
  now_operates : (front : List (ObjOp × ObjReply)) (last : ObjOp × ObjReply) → before.undo.entries ≡ front ++ last ∷ [] → IsOperating (context_of (abstract_state_of s) i) (inverse_from inverting last) (view_of (local before.subtx s.shared.pages))
  now_operates front last entries = subst (λ (m : LocalState). IsOperating (context_of (abstract_state_of s) i) (inverse_from inverting last) (view_of m)) (same_local s i before sound was) (by inverting here)
    where
      by : (o : Option OperationFields) → FitsAt (At.Undoing o) s i before → IsOperating (context_of (abstract_state_of s) i) (inverse_from o last) (view_of (local_of (all_of s) i))
      by None fits = starts (context_of (abstract_state_of s) i) (TakeBack last) (local_of (all_of s) i) (last_in_range s i before sound was front last entries) (unheld (all_of s) i fits.0)
      by (Some o) fits = fits.operates

  -- the inverse stands after its step
  goes : (Is : OperationFields → OperationFields → Type 0) (step : InverseSteps inverting next before.undo after.undo s.shared shared Is) (all : AllRunning)
      → map.get all.images i ≡ Some after.subtx.images → after.subtx.tx ≡ i → IsOperating (context_of (abstract_state_of s) i) step.after (view_of (local after.subtx shared.pages))
      → FitsAt after.at (with_transaction s i after shared all.images) i after
  goes Is step all own tx operates =
      let stands : HasInverse (with_transaction s i after shared all.images) i after step.after = record {
        front = step.front;
        last = step.last;
        entries = ap (λ (u : Undo). u.entries) step.rest.undo_kept ∙ step.entries;
        inverts = step.inverts;
        has = has_inverse step.front step.last step.entries step.begins;
        operates = subst (λ (m : LocalState). IsOperating (context_of (abstract_state_of s) i) step.after (view_of m)) (sym (local_now s i after shared all.images own tx)) operates;
      } in
      subst (λ (a : At). FitsAt a (with_transaction s i after shared all.images) i after) (sym now_at) (subst (λ (o : Option OperationFields). FitsAt (At.Undoing o) (with_transaction s i after shared all.images) i after) (sym step.is) stands)

  rooms : (Is : OperationFields → OperationFields → Type 0) → InverseSteps inverting next before.undo after.undo s.shared shared Is → shared.history.room + room_of before ≡ s.shared.history.room + room_of after
  rooms Is step =
      let none : pending_room before.at ≡ 0 = ap pending_room back_at in
      let none_still : pending_room after.at ≡ 0 = ap pending_room now_at in
      let same : shared.history.room ≡ s.shared.history.room = ap (λ (h : ItemsWithRoom). h.room) step.rest.history in
      let lengths : length after.undo.entries ≡ length before.undo.entries = ap (λ (u : Undo). length u.entries) step.rest.undo_kept in
      omega (arith, none, none_still, same, lengths)

  still_backward : is_undoing after.at ≡ is_undoing before.at
  still_backward = ap is_undoing now_at ∙ sym (ap is_undoing back_at)

  steps_on : InverseSteps inverting next before.undo after.undo s.shared shared (λ o o'. StepsOn (context_of (abstract_state_of s) i) (local before.subtx s.shared.pages) (local after.subtx shared.pages) o o')
      → KeepsCleanPages s i before after shared
  steps_on step =
      let t = turns_all s i before after shared sound was step.tells.turn in
      sound_after s i before after shared sound was t.0 t.1.leaves t.1.same t.1.own t.1.number step.rest.undo_kept step.rest.objects (ap (λ (h : ItemsWithRoom). h.items) step.rest.history) (rooms _ step) still_backward
      (goes _ step t.0 t.1.own t.1.number step.tells.operates)

  waits : (page by : ℕ) → InverseSteps inverting next before.undo after.undo s.shared shared (λ o o'. Waits (context_of (abstract_state_of s) i) (local before.subtx s.shared.pages) (local after.subtx shared.pages) o o' page by)
      → KeepsCleanPages s i before after shared
  waits page by step =
      let same = step.tells.pages in
      let t = stays_all s i before after shared sound was same in
      let operates : IsOperating (context_of (abstract_state_of s) i) step.after (view_of (local after.subtx shared.pages)) =
      subst (λ (m : LocalState). IsOperating (context_of (abstract_state_of s) i) step.after (view_of m)) (sym same) (subst (λ (p : OperationFields). IsOperating (context_of (abstract_state_of s) i) p (view_of (local before.subtx s.shared.pages))) (sym step.tells.stays) (now_operates step.front step.last step.entries)) in
      sound_after s i before after shared sound was (all_of s) t.leaves t.same t.own t.number step.rest.undo_kept step.rest.objects (ap (λ (h : ItemsWithRoom). h.items) step.rest.history) (rooms _ step) still_backward
      (goes _ step (all_of s) t.own t.number operates)

-- **A step of an inverse before its end keeps all that is always true.**
pub inverse_sound : (s : State) (i : ℕ) (inverting : Option OperationFields) (before after : Transaction) (shared : SharedState) (told : Answer) → IsSound s → map.get s.txs i ≡ Some before → before.at ≡ At.Undoing inverting
    → StepsBack (context_of (abstract_state_of s) i) inverting before after s.shared shared told → ((told ≡ Answer.Undone) → ⊥) → ((told ≡ Answer.Aborted) → ⊥)
    → KeepsCleanPages s i before after shared
inverse_sound s i inverting before after shared Answer.Going sound was back_at steps undone aborted = steps_on s i inverting steps.next before after shared sound was back_at steps.now_at steps.tells
inverse_sound s i inverting before after shared (Answer.Waiting page by) sound was back_at steps undone aborted = waits s i inverting steps.next before after shared sound was back_at steps.now_at page by steps.tells
inverse_sound s i inverting before after shared Answer.Undone sound was back_at steps undone aborted = absurd (undone refl)
inverse_sound s i inverting before after shared Answer.Aborted sound was back_at steps undone aborted = absurd (aborted refl)
inverse_sound s i inverting before after shared other sound was back_at steps undone aborted = absurd steps.tells
