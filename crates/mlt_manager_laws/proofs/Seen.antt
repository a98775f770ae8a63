-- What an event of one transaction leaves another: all that it sees, and what it is
use Rattle.std.proofs.Common.{◌≡◌, ◌≢◌, ℕ, Option, None, Some, unwrap_or, refl, sym, ap, subst, ◌∙◌}
use Rattle.std.specs.FinMap as map
use Rattle.mlt_page_locks.specs.Requests.{released}
use Rattle.mlt_page_subtx.specs.Images.{Images, Running}
use Rattle.mlt_hash_access.{specs.declared.locked_store.LockedStore.LockedStore, specs.LocalStates.local, specs.Views.view_of, specs.Running.AllRunning, specs.Running.KeepsRunning, specs.Running.after_end, specs.Running.local_of, proofs.AllEvents.end_keeps}
use Rattle.mlt_manager_laws.proofs.Names.{context_by, Answer, At, Transaction, Table, inserted_elsewhere, removed_elsewhere, view_in, HasStepped, txs_after, IsManager, ManagerFields, state_of}
use Rattle.mlt_tx_operation.specs.Operating.{OperationFields}
use Rattle.mlt_tx_meaning.specs.AbstractStates.{context_of}
use Rattle.mlt_tx.specs.{declared.shared.SharedState.SharedState, Endings.EndsSubtx, Steps.EndsBack, Transactions.StepsBack, Transactions.StepsPending, Transactions.TellsAt, Transactions.tx_state_of}
use Rattle.mlt_manager_invariant.{specs.Events.KeepsCleanPages, specs.Events.with_transaction, specs.States.all_of, specs.States.images_kept, specs.States.abstract_state_of, proofs.Inverting.inverse_sound, proofs.MaySteps.is_open_now, proofs.MaySteps.same_local, proofs.Pending.not_done_sound}

-- a transaction is still what it was, and sees what it saw
pub record StaysAs {P : Type 0} (m m' : ManagerFields P) (u : ℕ) (t : Transaction) : Type 0 where
  pub there : map.get m'.txs u ≡ Some t
  pub sees : view_in t m'.shared ≡ view_in t m.shared
  pub root : m'.root ≡ m.root

-- where no page has changed
pub quiet_stays : {P : Type 0} (m m' : ManagerFields P) (u : ℕ) (t : Transaction) → map.get m'.txs u ≡ Some t → m'.shared.pages ≡ m.shared.pages → m'.root ≡ m.root → StaysAs m m' u t
quiet_stays m m' u t there pages root = record { there = there; sees = ap (λ (p : LockedStore). view_of (local t.subtx p)) pages; root = root }

module _ {P : Type 0} (bits_of : P → ℕ → ℕ) (m : ManagerFields P) (h : IsManager bits_of m) (i u : ℕ) (t : Transaction) (ne : u ≢ i) (there : map.get m.txs u ≡ Some t) where
  sees : (all : AllRunning) → KeepsRunning i (all_of (state_of bits_of m h.images h.base)) all → (shared : SharedState) → all.locks ≡ shared.pages.locks → all.store ≡ shared.pages.store → view_in t shared ≡ view_in t m.shared
  sees all keeps shared locks store =
      let number = (h.sound.fits u t there).number in
      let images = keeps.images u ne ∙ h.sound.kept u ∙ ap images_kept there in
      let is : local_of all u ≡ local t.subtx shared.pages = (λ p. record {
        running = record { tx = sym number p; images = ap (λ (o : Option Images). unwrap_or o map.empty) images p };
        locks = locks p;
        store = store p;
      }) in
      sym (ap view_of is) ∙ keeps.views u ne ∙ ap view_of (same_local (state_of bits_of m h.images h.base) u t h.sound there)

  pub clean_sees : (before after : Transaction) (shared : SharedState) → KeepsCleanPages (state_of bits_of m h.images h.base) i before after shared → view_in t shared ≡ view_in t m.shared
  clean_sees before after shared (images, keeps) = sees (all_of (with_transaction (state_of bits_of m h.images h.base) i after shared images)) keeps.runs shared refl refl

  module _ (before : Transaction) (was : map.get m.txs i ≡ Some before) where
    end_sees : (running : Running) (shared : SharedState) → EndsSubtx before.subtx running m.shared shared → view_in t shared ≡ view_in t m.shared
    end_sees running shared ends =
        let all = all_of (state_of bits_of m h.images h.base) in
        sees (after_end all i) (end_keeps all i h.sound.running (is_open_now (state_of bits_of m h.images h.base) i before h.sound was)) shared
        (ap (released m.shared.pages.locks) (sym (h.sound.fits i before was).number) ∙ sym ends.locks) (sym ends.store)

    by_pending : (o : OperationFields) (after : Transaction) (shared : SharedState) (told : Answer) → before.at ≡ At.Pending o
        → StepsPending (context_of (abstract_state_of (state_of bits_of m h.images h.base)) i) o before after m.shared shared told → view_in t shared ≡ view_in t m.shared
    by_pending o after shared (Answer.Done reply) is s = ap (λ (c : SharedState). view_in t c) s.leaves ∙ end_sees after.subtx s.between s.tells.tells.1.ends
    by_pending o after shared Answer.Undone is s = absurd s.tells
    by_pending o after shared Answer.Aborted is s = absurd s.tells
    by_pending o after shared told is s = clean_sees before after shared (not_done_sound (state_of bits_of m h.images h.base) i o before after shared told h.sound was is s (λ reply e. cc))

    between_sees : (inverting next : Option OperationFields) (after : Transaction) (shared : SharedState) (told : Answer) (e : EndsBack inverting next (tx_state_of before m.shared) (tx_state_of after shared) told)
        → view_in t e.between ≡ view_in t m.shared
    between_sees None next after shared told e = ap (λ (c : SharedState). view_in t c) (e.fast refl).0
    between_sees (Some o) next after shared told e = end_sees after.subtx e.between (e.at_end o refl).1

    by_undoing : (inverting : Option OperationFields) (after : Transaction) (shared : SharedState) (told : Answer) → before.at ≡ At.Undoing inverting
        → StepsBack (context_of (abstract_state_of (state_of bits_of m h.images h.base)) i) inverting before after m.shared shared told → view_in t shared ≡ view_in t m.shared
    by_undoing inverting after shared Answer.Going is s = clean_sees before after shared (inverse_sound (state_of bits_of m h.images h.base) i inverting before after shared Answer.Going h.sound was is s (λ e. cc) (λ e. cc))
    by_undoing inverting after shared (Answer.Waiting page by) is s = clean_sees before after shared (inverse_sound (state_of bits_of m h.images h.base) i inverting before after shared (Answer.Waiting page by) h.sound was is s (λ e. cc) (λ e. cc))
    by_undoing inverting after shared Answer.Undone is s =
        ap (λ (p : LockedStore). view_of (local t.subtx p)) s.tells.takes.off.pages ∙ between_sees inverting s.next after shared Answer.Undone s.tells
    by_undoing inverting after shared Answer.Aborted is s =
        ap (λ (p : LockedStore). view_of (local t.subtx p)) s.tells.takes.off.pages ∙ between_sees inverting s.next after shared Answer.Aborted s.tells
    by_undoing inverting after shared other is s = absurd s.tells

    by_at : (a : At) (after : Transaction) (shared : SharedState) (told : Answer) → before.at ≡ a
        → TellsAt a (context_of (abstract_state_of (state_of bits_of m h.images h.base)) i) before after m.shared shared told → view_in t shared ≡ view_in t m.shared
    by_at At.Idle after shared told is none = absurd none
    by_at (At.Pending o) after shared told is s = by_pending o after shared told is s
    by_at (At.Undoing inverting) after shared told is s = by_undoing inverting after shared told is s

  pub changed_stays : (txs : Table) (after : Transaction) → txs ≡ map.insert m.txs i after → map.get txs u ≡ Some t
  changed_stays txs after is = ap (λ (x : Table). map.get x u) is ∙ inserted_elsewhere m.txs i after u ne ∙ there

  table_after : (told : Answer) (txs : Table) (after : Transaction) → txs ≡ map.insert m.txs i after → map.get (txs_after told i txs) u ≡ Some t
  table_after Answer.Aborted txs after is = removed_elsewhere txs i u ne ∙ changed_stays txs after is
  table_after other txs after is = changed_stays txs after is

  -- **A step of another.**
  pub step_leaves : (m' : ManagerFields P) (told : Answer) → HasStepped bits_of m m' i told → StaysAs m m' u t
  step_leaves m' told d =
      let c = d.steps.changes in
      let number = (h.sound.fits i c.before c.was).number in
      record {
        there = ap (λ (n : ManagerFields P). map.get n.txs u) d.rest ∙ table_after told d.txs c.after c.is;
        sees = by_at c.before c.was c.before.at c.after m'.shared told refl
            (subst (λ (n : ℕ). TellsAt c.before.at (context_by bits_of m.root m.active n) c.before c.after m.shared m'.shared told) number d.steps.tells);
        root = ap (λ (n : ManagerFields P). n.root) d.rest;
      }
