-- An abort that begins with something to take back
use Rattle.std.proofs.Common.{◌≡◌, ◌≢◌, ℕ, ◌≤◌, false, List, length, Some, is_some, refl, sym, ap, subst, ◌∙◌, inl, inr, arith}
use Rattle.std.specs.FinMap as map
use Rattle.std.specs.FinSet as set
use Rattle.mlt_manager_invariant.proofs.Names.{total_room, cases_eq, ObjOp, ObjReply, total_room-insert, HoldsNothing, KeepsRunning, Undo, PagesMeanHistory, Running, At, Transaction, with_transaction, Fits, FitsAt, IsSound, State, all_of, images_kept, is_undoing, is_undoing_at, pending_room, room_of, undoing_of, abstract_state_of}
use Rattle.mlt_tx_meaning.proofs.Transactions.{abort_keeps}
use Rattle.mlt_manager_invariant.{specs.Transactions.BeginsAbort, proofs.Others.still_fits, proofs.Tables.fits_after, proofs.Tables.inserted_elsewhere, proofs.Tables.inserted_here, proofs.Tables.opened_after}

module _ (s : State) (i : ℕ) (before after : Transaction) (sound : IsSound s) (was : map.get s.txs i ≡ Some before) (k : BeginsAbort before after) where
  abbrev now : State
  now = with_transaction s i after s.shared s.images

  keeps : KeepsRunning i (all_of s) (all_of now)
  keeps = record { may = sound.running; views = λ u ne. refl; images = λ u ne. refl; holders = λ u ne. refl }

  not_before : (j : ℕ) → undoing_of (map.insert s.txs i after) j ≡ false → undoing_of s.txs j ≡ false
  not_before j not_now = elim (cases_eq j i) [
    | inl here ↦ ap (undoing_of s.txs) here ∙ ap is_undoing_at was ∙ ap is_undoing k.idle
    | inr differ ↦ ap is_undoing_at (sym (inserted_elsewhere s.txs i after j differ)) ∙ not_now
  ]

  match : PagesMeanHistory (abstract_state_of now)
  match = abort_keeps (abstract_state_of s) (undoing_of (map.insert s.txs i after)) sound.match not_before

  kept : (j : ℕ) → map.get s.images j ≡ images_kept (map.get (map.insert s.txs i after) j)
  kept j = elim (cases_eq j i) [
    | inl here ↦
        ap (map.get s.images) here ∙ sound.kept i ∙ ap images_kept was ∙ ap (λ (r : Running). Some r.images) (sym k.subtx)
        ∙ sym (ap images_kept (ap (map.get (map.insert s.txs i after)) here ∙ inserted_here s.txs i after))
    | inr differ ↦ sound.kept j ∙ ap images_kept (sym (inserted_elsewhere s.txs i after j differ))
  ]

  opened : (j : ℕ) → set.contains s.active j ≡ is_some (map.get (map.insert s.txs i after) j)
  opened = opened_after s i before after was sound.opened

  entries : after.undo.entries ≡ before.undo.entries
  entries = ap (λ (u : Undo). u.entries) k.undo

  own_fits : Fits now i after
  own_fits =
      let fits = sound.fits i before was in
      let nothing : HoldsNothing (all_of s) i = subst (λ (a : At). FitsAt a s i before) k.idle fits.where_at in
      record {
        number = ap (λ (r : Running). r.tx) k.subtx ∙ fits.number;
        stands = entries ∙ fits.stands;
        few = subst (λ (e : List (ObjOp × ObjReply)). length e ≤ s.max_ops) (sym entries) fits.few;
        where_at = subst (λ (a : At). FitsAt a now i after) (sym k.undoing) (nothing, λ none. k.some (sym entries ∙ none));
      }

  other_fits : (j : ℕ) (t : Transaction) → j ≢ i → map.get s.txs j ≡ Some t → Fits now j t
  other_fits j t ne is =
      let fits = sound.fits j t is in
      record {
        number = fits.number;
        stands = fits.stands;
        few = fits.few;
        where_at = still_fits t.at i j s now t (record { other = ne; runs = keeps; context = refl; reserved = λ u differ. refl; max_ops = refl }) fits.where_at;
      }

  fits_all : (j : ℕ) (t : Transaction) → map.get (map.insert s.txs i after) j ≡ Some t → Fits now j t
  fits_all = fits_after s now i after refl own_fits other_fits

  same_room : room_of after ≡ room_of before
  same_room =
      let lengths : length after.undo.entries ≡ length before.undo.entries = ap length entries in
      let one : pending_room after.at ≡ 0 = ap pending_room k.undoing in
      let other : pending_room before.at ≡ 0 = ap pending_room k.idle in
      omega (arith, lengths, one, other)

  -- **All that is always true stays true.**
  pub abort_sound : IsSound now
  abort_sound =
      let room : s.shared.history.room ≡ total_room room_of now.txs = omega (arith, same_room, sound.room, total_room-insert room_of s.txs i before after was) in
      assumption (match, kept, opened, fits_all, room, sound)
