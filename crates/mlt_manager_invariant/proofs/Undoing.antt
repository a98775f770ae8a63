-- An abort takes the last operation back, and others stand
use Rattle.std.proofs.Common.{◌≡◌, ◌≢◌, ℕ, ◌++◌, ◌∷◌, [], Bool, List, Option, Some, length, is_some, refl, sym, ap, subst, ◌∙◌, inl, inr, arith}
use Rattle.std.specs.FinMap as map
use Rattle.std.specs.FinSet as set
use Rattle.mlt_manager_invariant.proofs.Names.{cases_eq, Base, Step, ObjOp, ObjReply, Entry, Lists, after_entry, but_last, lists_of, no_lists, TookBack, items_of, after_entries-push, but_last-push, changed, Locks, SameReservations, reservation_of, TraceItem, entries_of, ItemsWithRoom, CountsFrom, begun_txs, commit_numbers, total_room, entries_of-append, no_begin, no_commit, total_room-insert, PagesMeanHistory, lists_in, OperationFields, Answer, SharedState, At, Transaction, Fits, FitsAt, IsSound, State, images_kept, is_undoing, room_of, undoing_of, abstract_state_of, LedBack, TakesLastBack}
use Rattle.mlt_tx_meaning.specs.Events.{with_undone as state_undone}
use Rattle.mlt_tx.specs.Steps.{TakesOne}
use Rattle.mlt_manager_invariant.{specs.Undoing.with_undone, proofs.Others.still_fits, proofs.Tables.fits_after, proofs.Tables.kept_after, proofs.Tables.opened_after, proofs.Tables.same_undoing}
use Rattle.mlt_manager_invariant.proofs.LastBack.{IsLeft, led_back, left, one_fewer, pages_now, room_after, room_before}

module _ (s : State) (i : ℕ) (inverting : Option OperationFields) (before after : Transaction) (shared : SharedState)
    (sound : IsSound s) (was : map.get s.txs i ≡ Some before) (takes : TakesLastBack s inverting before after shared Answer.Undone) where
  abbrev one : TakesOne before.subtx.tx before.undo after.undo takes.ends.between shared
  one = takes.ends.takes

  abbrev led : (base : Base) × Step base one.off.last s.base × PagesMeanHistory (state_undone (abstract_state_of s) i (pages_now s i before after shared Answer.Undone sound was inverting takes one.off) base)
  led = led_back s i before after shared Answer.Undone sound was inverting takes one.off

  abbrev rest : IsLeft s i after takes.ends.between shared one.off.last
  rest = left s i before after shared Answer.Undone sound was inverting takes one.off

  abbrev now : State
  now = with_undone s i after shared led.0

  items_now : shared.history.items ≡ s.shared.history.items ++ TraceItem.Back i ∷ []
  items_now =
      one.items ∙ ap (λ (h : ItemsWithRoom). h.items ++ TraceItem.Back before.subtx.tx ∷ []) rest.history
      ∙ ap (λ n. s.shared.history.items ++ TraceItem.Back n ∷ []) (sound.fits i before was).number

  history_now : entries_of shared.history.items ≡ entries_of s.shared.history.items ++ TookBack i ∷ []
  history_now = ap entries_of items_now ∙ entries_of-append s.shared.history.items (TraceItem.Back i ∷ [])

  lists_now : lists_in (abstract_state_of now) ≡ after_entry (lists_in (abstract_state_of s)) (TookBack i)
  lists_now = ap lists_of history_now ∙ after_entries-push (entries_of s.shared.history.items) no_lists (TookBack i)

  match : PagesMeanHistory (abstract_state_of now)
  match =
      let pages = pages_now s i before after shared Answer.Undone sound was inverting takes one.off in
      let undoing : undoing_of s.txs ≡ undoing_of (map.insert s.txs i after) =
      sym (λ p j. same_undoing s.txs i before after was (ap is_undoing takes.is_at ∙ sym (ap is_undoing takes.was_at)) j p) in
      subst (λ (h : List (Entry (ObjOp × ObjReply))). PagesMeanHistory (record (abstract_state_of s) { pages = pages; undoing = undoing_of (map.insert s.txs i after); history = h; base = led.0 })) (sym history_now)
      (subst (λ (u : ℕ → Bool). PagesMeanHistory (record (abstract_state_of s) { pages = pages; undoing = u; history = entries_of s.shared.history.items ++ TookBack i ∷ []; base = led.0 })) undoing led.2)

  kept : (j : ℕ) → map.get (map.insert s.images i map.empty) j ≡ images_kept (map.get (map.insert s.txs i after) j)
  kept = kept_after s i after sound.kept rest.own

  opened : (j : ℕ) → set.contains s.active j ≡ is_some (map.get (map.insert s.txs i after) j)
  opened = opened_after s i before after was sound.opened

  abbrev old_lists : Lists (ObjOp × ObjReply)
  old_lists = lists_in (abstract_state_of s)

  own_fits : Fits now i after
  own_fits =
      let fits = sound.fits i before was in
      let shorter : (after_entry old_lists (TookBack i)).transcripts i ≡ after.undo.entries =
      (changed old_lists.transcripts i (but_last (old_lists.transcripts i))).0 ∙ ap but_last (sym fits.stands ∙ one.off.entries) ∙ but_last-push after.undo.entries one.off.last in
      record {
        number = rest.number;
        stands = sym shorter ∙ ap (λ l. l.transcripts i) (sym lists_now);
        few = let fewer = one_fewer s i before after shared Answer.Undone sound was inverting takes one.off in let few = fits.few in omega (arith, fewer, few);
        where_at = subst (λ (a : At). FitsAt a now i after) (sym takes.is_at) (rest.cleared.nothing, one.left);
      }

  objects_kept : shared.objects ≡ s.shared.objects
  objects_kept = one.objects ∙ rest.objects

  other_fits : (j : ℕ) (t : Transaction) → j ≢ i → map.get s.txs j ≡ Some t → Fits now j t
  other_fits j t ne is =
      let fits = sound.fits j t is in
      let reserved : SameReservations s.shared.objects.reserved shared.objects.reserved i =
      λ other n. ap (λ (l : Locks). reservation_of l.reserved other) objects_kept in
      record {
        number = fits.number;
        stands = fits.stands ∙ sym ((changed old_lists.transcripts i (but_last (old_lists.transcripts i))).1 j ne) ∙ ap (λ l. l.transcripts j) (sym lists_now);
        few = fits.few;
        where_at = still_fits t.at i j s now t (record { other = ne; runs = rest.cleared.keeps; context = refl; reserved = reserved; max_ops = refl }) fits.where_at;
      }

  fits_all : (j : ℕ) (t : Transaction) → map.get (map.insert s.txs i after) j ≡ Some t → Fits now j t
  fits_all = fits_after s now i after refl own_fits other_fits

  room_now : shared.history.room ≡ total_room room_of (map.insert s.txs i after)
  room_now =
      let was_room = sound.room in
      let less = one.room ∙ ap (λ (h : ItemsWithRoom). h.room) rest.history in
      let total = total_room-insert room_of s.txs i before after was in
      let old = room_before s i before after shared Answer.Undone sound was inverting takes one.off in
      let new = room_after s i before after shared Answer.Undone sound was inverting takes one.off in
      omega (arith, was_room, less, total, old, new)

  now_sound : IsSound now
  now_sound = record {
    match = match;
    running = rest.cleared.keeps.may;
    kept = kept;
    opened = opened;
    fits = fits_all;
    held = λ j. ap (λ (l : Locks). items_of j l.held) objects_kept ∙ sound.held j ∙ ap (λ l. l.held j) (sym lists_now);
    begun = subst (CountsFrom 1) (sym (ap begun_txs items_now ∙ no_begin s.shared.history.items (TraceItem.Back i) refl)) sound.begun;
    count = sound.count ∙ sym (ap length (ap begun_txs items_now ∙ no_begin s.shared.history.items (TraceItem.Back i) refl));
    commits = subst (CountsFrom 1) (sym (ap commit_numbers items_now ∙ no_commit s.shared.history.items (TraceItem.Back i) refl)) sound.commits;
    room = room_now;
  }

  -- **All that is always true stays true, where others stand.**
  pub undone_sound : LedBack s before after (with_undone s i after shared)
  undone_sound = record { last = one.off.last; base = led.0; entries = one.off.entries; step = led.1; sound = now_sound }
