-- Calls, and the cancels of what was called
use Rattle.std.proofs.Common.{◌≡◌, ℕ, length, Some, refl, sym, ap, subst, ◌∙◌, arith}
use Rattle.std.specs.FinMap as map
use Rattle.mlt_manager_invariant.proofs.Names.{released, ItemsWithRoom, Running, put_back, started, Undo, LockedStore, LocalState, view_of, AllRunning, HoldsNothing, KeepsRunning, after_roll_back, clean_of, images_by, local_of, nothing_after_roll_back, context_of, IsOperating, OperationFields, started_for, Do, starts, SharedState, At, Transaction, KeepsCleanPages, with_transaction, FitsAt, HasPending, IsSound, State, all_of, images_kept, is_undoing, pending_room, abstract_state_of}
use Rattle.mlt_tx.specs.Transactions.{TellsOfCancel}
use Rattle.mlt_manager_invariant.{specs.Events.Calls, proofs.MaySteps.is_open_now, proofs.MaySteps.same_local, proofs.MaySteps.unheld, proofs.Pending.back_to, proofs.Stays.stays_sound, proofs.Turned.rolled_back, proofs.Turning.sound_after}

-- **A call keeps all that is always true.**
pub called_sound : (s : State) (i : ℕ) (before after : Transaction) (shared : SharedState) → IsSound s → map.get s.txs i ≡ Some before → Calls s i before after shared → IsSound (with_transaction s i after shared s.images)
called_sound s i before after shared sound was c =
    let fits = sound.fits i before was in
    let alike : all_of (with_transaction s i after shared s.images) ≡ all_of s = (λ p. record { images = s.images; locks = (c.pages p).locks; store = (c.pages p).store }) in
    let nothing : HoldsNothing (all_of s) i = subst (λ (a : At). FitsAt a s i before) c.idle fits.where_at in
    let two : pending_room after.at ≡ 2 = ap pending_room c.pending in
    let none : pending_room before.at ≡ 0 = ap pending_room c.idle in
    let lengths : length after.undo.entries ≡ length before.undo.entries = ap length c.entries in
    let operates : IsOperating (context_of (abstract_state_of s) i) (started_for (Do c.op)) (view_of (local_of (all_of s) i)) =
    starts (context_of (abstract_state_of s) i) (Do c.op) (local_of (all_of s) i) c.in_range.cell (unheld (all_of s) i nothing) in
    let pending : HasPending (with_transaction s i after shared s.images) i after (started_for (Do c.op)) = record {
      op = c.op;
      asked = refl;
      in_range = c.in_range;
      operates = subst (λ (a : AllRunning). IsOperating (context_of (abstract_state_of s) i) (started_for (Do c.op)) (view_of (local_of a i))) (sym alike) operates;
      reserved = c.reserved;
      spare = c.spare;
      fewer = omega (arith, c.fewer, lengths);
    } in
    stays_sound s i before after shared s.images sound was (record {
      runs = subst (KeepsRunning i (all_of s)) (sym alike) (record { may = sound.running; views = λ u ne. refl; images = λ u ne. refl; holders = λ u ne. refl });
      clean = ap clean_of alike;
      own = sound.kept i ∙ ap images_kept was ∙ sym (ap (λ (r : Running). Some r.images) c.subtx_kept);
      number = ap (λ (r : Running). r.tx) c.subtx_kept ∙ fits.number;
      held = c.held;
      reserved = c.others;
      items = c.items;
      room = omega (arith, c.room, two, none, lengths);
      entries = c.entries;
      undoing = ap is_undoing c.pending ∙ sym (ap is_undoing c.idle);
      fits = subst (λ (a : At). FitsAt a (with_transaction s i after shared s.images) i after) (sym c.pending) pending;
    })

-- **So does a cancel.**
pub cancelled_sound : (s : State) (i : ℕ) (o : OperationFields) (before after : Transaction) (shared : SharedState) → IsSound s → map.get s.txs i ≡ Some before → before.at ≡ At.Pending o
    → TellsOfCancel before after s.shared shared → KeepsCleanPages s i before after shared
cancelled_sound s i o before after shared sound was pending_at c =
    let fits = sound.fits i before was in
    let all = all_of s in
    let leaves = rolled_back all i sound.running (is_open_now s i before sound was) in
    let running : after.subtx ≡ started i = c.back.running ∙ ap started fits.number in
    let locks : shared.pages.locks ≡ released all.locks i = ap (λ (l : LockedStore). l.locks) c.room.pages ∙ c.back.locks ∙ ap (λ (n : ℕ). released all.locks n) fits.number in
    let store : shared.pages.store ≡ record all.store { pages = put_back (images_by all i) all.store.pages } =
    ap (λ (l : LockedStore). l.store) c.room.pages ∙ c.back.store ∙ ap (λ (m : LocalState). record all.store { pages = put_back m.running.images all.store.pages }) (sym (same_local s i before sound was)) in
    let both = back_to s i o before after shared sound was pending_at all leaves running locks store in
    let images = (after_roll_back all i).images in
    let two : pending_room before.at ≡ 2 = ap pending_room pending_at in
    let none : pending_room after.at ≡ 0 = ap pending_room c.idle in
    let lengths : length after.undo.entries ≡ length before.undo.entries = ap (λ (u : Undo). length u.entries) c.undo_kept in
    let rooms = ap (λ (h : ItemsWithRoom). h.room) c.history in
    let nothing : HoldsNothing (all_of (with_transaction s i after shared images)) i = subst (λ (a : AllRunning). HoldsNothing a i) (sym both.0) (nothing_after_roll_back all i) in
    sound_after s i before after shared sound was (after_roll_back all i) leaves both.0 both.1 (ap (λ (t : Running). t.tx) running) c.undo_kept (c.room.objects ∙ c.objects)
    (c.room.items ∙ ap (λ (h : ItemsWithRoom). h.items) c.history) (omega (arith, c.room.room, two, none, lengths, rooms)) (ap is_undoing c.idle ∙ sym (ap is_undoing pending_at))
    (subst (λ (a : At). FitsAt a (with_transaction s i after shared images) i after) (sym c.idle) nothing)
