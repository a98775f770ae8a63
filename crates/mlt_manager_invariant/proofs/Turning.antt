-- Events of one transaction that leave the clean pages, by what they leave of all running subtransactions
use Rattle.std.proofs.Common.{◌≡◌, ℕ, ◌+◌, Option, Some, unwrap_or, refl, sym, ap, subst, ◌∙◌}
use Rattle.std.specs.FinMap as map
use Rattle.mlt_manager_invariant.proofs.Names.{Locks, reservation_of, Images, Running, Undo, LocalState, local, RunningImages, AllRunning, KeepsRunning, after_step, clean_of, local_of, TakesTurn, SharedState, Transaction, KeepsCleanPages, with_transaction, FitsAt, IsSound, State, all_of, images_kept, is_undoing, room_of}
use Rattle.mlt_manager_invariant.proofs.{MaySteps.is_open_now, MaySteps.same_local, Tables.inserted_here, Turned.LeavesAll, Turned.turn_leaves}

-- what the transaction works on after an event
pub local_now : (s : State) (i : ℕ) (after : Transaction) (shared : SharedState) (images : RunningImages) → map.get images i ≡ Some after.subtx.images → after.subtx.tx ≡ i
    → local_of (all_of (with_transaction s i after shared images)) i ≡ local after.subtx shared.pages
local_now s i after shared images own tx p = record {
  running = record { tx = sym tx p; images = ap (λ (o : Option Images). unwrap_or o map.empty) own p };
  locks = shared.pages.locks;
  store = shared.pages.store;
}

module _ (s : State) (i : ℕ) (before after : Transaction) (shared : SharedState)
    (sound : IsSound s) (was : map.get s.txs i ≡ Some before) where
  -- an event that leaves the rest
  pub sound_after : (all : AllRunning) → LeavesAll i (all_of s) all → all_of (with_transaction s i after shared all.images) ≡ all
      → map.get all.images i ≡ Some after.subtx.images → after.subtx.tx ≡ i → after.undo ≡ before.undo → shared.objects ≡ s.shared.objects
      → shared.history.items ≡ s.shared.history.items → shared.history.room + room_of before ≡ s.shared.history.room + room_of after
      → is_undoing after.at ≡ is_undoing before.at → FitsAt after.at (with_transaction s i after shared all.images) i after
      → KeepsCleanPages s i before after shared
  sound_after all leaves same own tx undo objects items room undoing fits = (
    all.images,
    record {
      runs = subst (KeepsRunning i (all_of s)) (sym same) leaves.keeps;
      clean = ap clean_of same ∙ leaves.clean;
      own = own;
      number = tx;
      held = ap (λ (l : Locks). l.held) objects;
      reserved = λ j ne. ap (λ (l : Locks). reservation_of l.reserved j) objects;
      items = items;
      room = room;
      entries = ap (λ (u : Undo). u.entries) undo;
      undoing = undoing;
      fits = fits;
    },
  )

  -- what a turn leaves
  pub record Turns (all : AllRunning) : Type 0 where
    pub leaves : LeavesAll i (all_of s) all
    pub same : all_of (with_transaction s i after shared all.images) ≡ all
    pub own : map.get all.images i ≡ Some after.subtx.images
    pub number : after.subtx.tx ≡ i

  pub turns_all : TakesTurn (local before.subtx s.shared.pages) (local after.subtx shared.pages) → (all : AllRunning) × Turns all
  turns_all turn =
      let m : LocalState = local after.subtx shared.pages in
      let turn_here : TakesTurn (local_of (all_of s) i) m = subst (λ (n : LocalState). TakesTurn n m) (sym (same_local s i before sound was)) turn in
      let leaves = turn_leaves (all_of s) i m sound.running (is_open_now s i before sound was) turn_here in
      let all = after_step (all_of s) m in
      let own : map.get all.images i ≡ Some after.subtx.images = ap (λ (n : ℕ). map.get all.images n) (sym leaves.1) ∙ inserted_here s.images after.subtx.tx after.subtx.images in
      (all, record { leaves = leaves.0; same = refl; own = own; number = leaves.1 })

  pub stays_all : local after.subtx shared.pages ≡ local before.subtx s.shared.pages → Turns (all_of s)
  stays_all same =
      let running : after.subtx ≡ before.subtx = ap (λ (m : LocalState). m.running) same in
      record {
        leaves = record { keeps = record { may = sound.running; views = λ u ne. refl; images = λ u ne. refl; holders = λ u ne. refl }; clean = refl };
        same = λ p. record { images = s.images; locks = (same p).locks; store = (same p).store };
        own = sound.kept i ∙ ap images_kept was ∙ sym (ap (λ (t : Running). Some t.images) running);
        number = ap (λ (t : Running). t.tx) running ∙ (sound.fits i before was).number;
      }
