-- Calls and cancels keep what is always true of a manager
use Rattle.std.proofs.Common.{◌≡◌, ℕ, length, Some, refl, sym, ap, subst, ◌∙◌, arith}
use Rattle.std.specs.FinMap as map
use Rattle.mlt_manager.proofs.Names.{ObjOp, cell_of, SameReservations, reservation_of, Running, HoldsNothing, clean_of, OperationFields, At, Transaction, IsPending, Table, KeepsCleanPages, FitsAt, all_of, images_kept, pending_room, ChangesOpen, HasCalled, IsIdleWith, IsOpenAt, MayCall, KeepsWhatCounts, IsManager, ManagerFields, state_of}
use Rattle.mlt_hash_access.specs.Running.{AllRunning, KeepsRunning}
use Rattle.mlt_tx.specs.Tables.{CallsNone, CancelsOne}
use Rattle.mlt_manager_invariant.{specs.Events.Calls, specs.Events.with_transaction, specs.States.is_undoing, proofs.Calls.called_sound, proofs.Calls.cancelled_sound, proofs.TraceStays.called_traced}
use Rattle.mlt_manager.proofs.{Counts.cancel_counts, Counts.same_counts, Keeping.IsStill, Keeping.changed_keeps, Keeping.same_manager, Stepped.keeps_what_counts, Stepped.still}

-- one number has one transaction
pub one_there : (txs : Table) (tx : ℕ) (a b : Transaction) → map.get txs tx ≡ Some a → map.get txs tx ≡ Some b → a ≡ b
one_there txs tx a b is also = let both : Some a ≡ Some b = sym is ∙ also in cc

pub was_idle : (txs : Table) (tx count : ℕ) (before : Transaction) → IsIdleWith txs tx count → map.get txs tx ≡ Some before → before.at ≡ At.Idle
was_idle txs tx count before idle was = ap (λ (t : Transaction). t.at) (one_there txs tx before idle.one was idle.there) ∙ idle.idle

pub was_with : (txs : Table) (tx count : ℕ) (before : Transaction) → IsIdleWith txs tx count → map.get txs tx ≡ Some before → length before.undo.entries ≡ count
was_with txs tx count before idle was = ap (λ (t : Transaction). length t.undo.entries) (one_there txs tx before idle.one was idle.there) ∙ idle.counts

pub pending_of : (a : At) → IsPending a → (o : OperationFields) × (a ≡ At.Pending o)
pending_of At.Idle none = absurd none
pending_of (At.Pending o) is = (o, refl)
pending_of (At.Undoing inverting) none = absurd none

module _ {P : Type 0} (bits_of : P → ℕ → ℕ) (m : ManagerFields P) (h : IsManager bits_of m) (tx : ℕ) (m' : ManagerFields P) (rest : ChangesOpen m m') where
  -- the manager, where the table has this one changed
  changed_core : (after : Transaction) → m'.txs ≡ map.insert m.txs tx after → m' ≡ record m { shared = m'.shared; txs = map.insert m.txs tx after }
  changed_core after is = rest ∙ (λ p. record m { shared = m'.shared; txs = is p })

  pub called_keeps : (op : ObjOp) → HasCalled m m' tx op → IsManager bits_of m'
  called_keeps op c =
      let ch = c.calls.changes in
      let t = c.calls.tells in
      let number = (h.sound.fits tx ch.before ch.was).number in
      let count = was_with m.txs tx c.may.0 ch.before c.may.1 ch.was in
      let calls : Calls (state_of bits_of m h.images h.base) tx ch.before ch.after m'.shared = record {
        op = op;
        in_range = c.in_range;
        idle = was_idle m.txs tx c.may.0 ch.before c.may.1 ch.was;
        fewer = omega (arith, count, c.may.2);
        pending = t.pending;
        subtx_kept = t.makes.subtx_kept;
        entries = t.makes.entries;
        spare = t.spare;
        pages = t.makes.pages;
        held = t.makes.held;
        reserved = subst (λ (n : ℕ). reservation_of m'.shared.objects.reserved n ≡ Some (cell_of op)) number t.reserved;
        others = subst (SameReservations m.shared.objects.reserved m'.shared.objects.reserved) number t.makes.others;
        items = t.makes.items;
        room = t.room;
      } in
      let again : IsStill bits_of (record m { shared = m'.shared; txs = map.insert m.txs tx ch.after }) = record {
        images = h.images;
        base = h.base;
        sound = called_sound (state_of bits_of m h.images h.base) tx ch.before ch.after m'.shared h.sound ch.was calls;
        traced = called_traced (state_of bits_of m h.images h.base) tx ch.before ch.after m'.shared h.images h.traced ch.was calls;
      } in
      same_manager bits_of m' (record m { shared = m'.shared; txs = map.insert m.txs tx ch.after }) (changed_core ch.after ch.is)
      (changed_keeps bits_of m h tx ch.before ch.after m'.shared ch.was (same_counts m.shared m'.shared t.makes.pages t.makes.items) again)

  -- a call that there was no memory for
  not_called_clean : (count : ℕ) → IsIdleWith m.txs tx count → (none : CallsNone tx m.txs m'.txs m.shared m'.shared)
      → KeepsCleanPages (state_of bits_of m h.images h.base) tx none.changes.before none.changes.after m'.shared
  not_called_clean count idle none =
      let s = state_of bits_of m h.images h.base in
      let ch = none.changes in
      let t = none.tells in
      let fits = h.sound.fits tx ch.before ch.was in
      let was_at : ch.before.at ≡ At.Idle = was_idle m.txs tx count ch.before idle ch.was in
      let alike : all_of (with_transaction s tx ch.after m'.shared h.images) ≡ all_of s = (λ p. record { images = h.images; locks = (t.makes.pages p).locks; store = (t.makes.pages p).store }) in
      let nothing : HoldsNothing (all_of s) tx = subst (λ (a : At). FitsAt a s tx ch.before) was_at fits.where_at in
      let lengths : length ch.after.undo.entries ≡ length ch.before.undo.entries = ap length t.makes.entries in
      let pending : pending_room ch.after.at ≡ pending_room ch.before.at = ap pending_room t.idle in (
        h.images,
        record {
          runs = subst (KeepsRunning tx (all_of s)) (sym alike) (record { may = h.sound.running; views = λ u ne. refl; images = λ u ne. refl; holders = λ u ne. refl });
          clean = ap clean_of alike;
          own = h.sound.kept tx ∙ ap images_kept ch.was ∙ sym (ap (λ (r : Running). Some r.images) t.makes.subtx_kept);
          number = ap (λ (r : Running). r.tx) t.makes.subtx_kept ∙ fits.number;
          held = t.makes.held;
          reserved = subst (SameReservations m.shared.objects.reserved m'.shared.objects.reserved) fits.number t.makes.others;
          items = t.makes.items;
          room = omega (arith, t.room, lengths, pending);
          entries = t.makes.entries;
          undoing = ap is_undoing t.idle;
          fits = subst (λ (a : At). FitsAt a (with_transaction s tx ch.after m'.shared h.images) tx ch.after) (sym (t.idle ∙ was_at)) (subst (λ (r : AllRunning). HoldsNothing r tx) (sym alike) nothing);
        },
      )

  pub not_called_keeps : MayCall m tx → CallsNone tx m.txs m'.txs m.shared m'.shared → IsManager bits_of m' × KeepsWhatCounts m m'
  not_called_keeps may none =
      let ch = none.changes in
      let clean = not_called_clean may.0 may.1 none in (
        same_manager bits_of m' (record m { shared = m'.shared; txs = map.insert m.txs tx ch.after }) (changed_core ch.after ch.is)
            (changed_keeps bits_of m h tx ch.before ch.after m'.shared ch.was (same_counts m.shared m'.shared none.tells.makes.pages none.tells.makes.items) (still bits_of m h tx ch.before ch.after m'.shared ch.was clean)),
        keeps_what_counts bits_of m h tx ch.before ch.after m'.shared ch.was m' refl ch.is clean,
      )

  pub cancelled_keeps : IsOpenAt m.txs tx IsPending → CancelsOne tx m.txs m'.txs m.shared m'.shared → IsManager bits_of m' × KeepsWhatCounts m m'
  cancelled_keeps there c =
      let ch = c.changes in
      let o = pending_of there.one.at there.is_at in
      let was_at : ch.before.at ≡ At.Pending o.0 = ap (λ (t : Transaction). t.at) (one_there m.txs tx ch.before there.one ch.was there.there) ∙ o.1 in
      let clean = cancelled_sound (state_of bits_of m h.images h.base) tx o.0 ch.before ch.after m'.shared h.sound ch.was was_at c.tells in (
        same_manager bits_of m' (record m { shared = m'.shared; txs = map.insert m.txs tx ch.after }) (changed_core ch.after ch.is)
            (changed_keeps bits_of m h tx ch.before ch.after m'.shared ch.was (cancel_counts ch.before ch.after m.shared m'.shared c.tells) (still bits_of m h tx ch.before ch.after m'.shared ch.was clean)),
        keeps_what_counts bits_of m h tx ch.before ch.after m'.shared ch.was m' refl ch.is clean,
      )
