-- Events that leave the clean pages, the items of the history and what is held
use Rattle.std.proofs.Common.{◌≡◌, ◌≢◌, ℕ, ◌≤◌, Bool, List, length, Some, is_some, refl, sym, ap, subst, ◌∙◌, inl, inr, arith}
use Rattle.std.specs.FinMap as map
use Rattle.std.specs.FinSet as set
use Rattle.mlt_manager_invariant.proofs.Names.{cases_eq, ObjOp, ObjReply, Entry, lists_of, items_of, Held, TraceItem, entries_of, AreBegunInOrder, AreCounted, begin_count, total_room-insert, RunningImages, clean_pages, PagesMeanHistory, lists_in, same_pages_match, SharedState, Transaction, with_transaction, Fits, IsSound, State, images_kept, room_of, undoing_of, abstract_state_of}
use Rattle.mlt_manager_invariant.{specs.Events.KeepsClean, proofs.Others.still_fits}
use Rattle.mlt_manager_invariant.proofs.Tables.{fits_after, inserted_elsewhere, inserted_here, opened_after, same_undoing}

module _ (s : State) (i : ℕ) (before after : Transaction) (shared : SharedState) (images : RunningImages)
    (sound : IsSound s) (was : map.get s.txs i ≡ Some before) (k : KeepsClean s i before after shared images) where
  same_lists : lists_in (abstract_state_of (with_transaction s i after shared images)) ≡ lists_in (abstract_state_of s)
  same_lists = ap (λ (items : List TraceItem). lists_of (entries_of items)) k.items

  match : PagesMeanHistory (abstract_state_of (with_transaction s i after shared images))
  match =
      let pages = clean_pages images shared.pages.store.pages in
      let same : PagesMeanHistory (record (abstract_state_of s) { pages = pages }) = same_pages_match (abstract_state_of s) pages sound.match (λ q. ap (λ f. f q) k.clean) in
      let undoing : undoing_of s.txs ≡ undoing_of (map.insert s.txs i after) = sym (λ p j. same_undoing s.txs i before after was k.undoing j p) in
      let items : entries_of s.shared.history.items ≡ entries_of shared.history.items = ap entries_of (sym k.items) in
      subst (λ (h : List (Entry (ObjOp × ObjReply))). PagesMeanHistory (record (abstract_state_of s) { pages = pages; undoing = undoing_of (map.insert s.txs i after); history = h })) items
      (subst (λ (u : ℕ → Bool). PagesMeanHistory (record (abstract_state_of s) { pages = pages; undoing = u })) undoing same)

  kept : (j : ℕ) → map.get images j ≡ images_kept (map.get (map.insert s.txs i after) j)
  kept j = elim (cases_eq j i) [
    | inl here ↦ ap (λ n. map.get images n) here ∙ k.own ∙ sym (ap images_kept (ap (λ n. map.get (map.insert s.txs i after) n) here ∙ inserted_here s.txs i after))
    | inr differ ↦ k.runs.images j differ ∙ sound.kept j ∙ ap images_kept (sym (inserted_elsewhere s.txs i after j differ))
  ]

  opened : (j : ℕ) → set.contains s.active j ≡ is_some (map.get (map.insert s.txs i after) j)
  opened = opened_after s i before after was sound.opened

  own_fits : Fits (with_transaction s i after shared images) i after
  own_fits =
      let fits = sound.fits i before was in
      record {
        number = k.number;
        stands = k.entries ∙ fits.stands ∙ ap (λ l. l.transcripts i) (sym same_lists);
        few = subst (λ (e : List (ObjOp × ObjReply)). length e ≤ s.max_ops) (sym k.entries) fits.few;
        where_at = k.fits;
      }

  other_fits : (j : ℕ) (t : Transaction) → j ≢ i → map.get s.txs j ≡ Some t → Fits (with_transaction s i after shared images) j t
  other_fits j t ne is =
      let fits = sound.fits j t is in
      record {
        number = fits.number;
        stands = fits.stands ∙ ap (λ l. l.transcripts j) (sym same_lists);
        few = fits.few;
        where_at = still_fits t.at i j s (with_transaction s i after shared images) t (record { other = ne; runs = k.runs; context = refl; reserved = k.reserved; max_ops = refl }) fits.where_at;
      }

  fits_all : (j : ℕ) (t : Transaction) → map.get (map.insert s.txs i after) j ≡ Some t → Fits (with_transaction s i after shared images) j t
  fits_all = fits_after s (with_transaction s i after shared images) i after refl own_fits other_fits

  -- **All that is always true stays true.**
  pub stays_sound : IsSound (with_transaction s i after shared images)
  stays_sound = record {
    match = match;
    running = k.runs.may;
    kept = kept;
    opened = opened;
    fits = fits_all;
    held = λ j. ap (λ (h : List Held). items_of j h) k.held ∙ sound.held j ∙ ap (λ l. l.held j) (sym same_lists);
    begun = subst AreBegunInOrder (sym k.items) sound.begun;
    count = sound.count ∙ ap begin_count (sym k.items);
    commits = subst AreCounted (sym k.items) sound.commits;
    room = omega (arith, k.room, sound.room, total_room-insert room_of s.txs i before after was);
  }
