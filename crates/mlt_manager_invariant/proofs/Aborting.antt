-- An abort takes the last operation back that stands, and the transaction is closed
use Rattle.std.proofs.Common.{◌≡◌, ◌≢◌, ℕ, ◌++◌, ◌∷◌, [], List, Option, Some, length, is_some, refl, sym, ap, subst, ◌∙◌, append_assoc, inl, inr, arith, filter, nat_cmp}
use Rattle.std.specs.FinMap as map
use Rattle.std.specs.FinSet as set
use Rattle.mlt_manager_invariant.proofs.Names.{cases_eq, none-some, Page, Base, Step, ObjOp, ObjReply, Entry, Lists, after_entry, but_last, lists_of, no_lists, TookBack, items_of, SameElsewhere, after_entries-push, but_last-push, changed, Locks, SameReservations, is_of_other, reservation_of, TraceItem, entries_of, ItemsWithRoom, CountsFrom, begun_txs, commit_numbers, total_room, entries_of-append, no_begin, no_commit, total_room-remove, clean_pages, view_of, KeepsRunning, after_close, clean_of, local_of, close_clean, close_keeps, PagesMeanHistory, lists_in, same_pages_match, no_more_by_end, OperationFields, Answer, SharedState, Transaction, Fits, IsSound, State, all_of, images_kept, is_undoing_at, room_of, undoing_of, abstract_state_of, LedBack, TakesLastBack}
use Rattle.mlt_order.specs.Histories.Entry.{Closed}
use Rattle.mlt_tx_meaning.{specs.Events.with_closed, specs.Events.with_undone as state_undone, proofs.OpenNumbers.removed_beside, proofs.OpenNumbers.removed_here as closed_here, proofs.Transactions.close_keeps as close_keeps_match}
use Rattle.mlt_tx.specs.Steps.{TakesLast}
use Rattle.mlt_manager_invariant.{specs.Undoing.with_aborted, proofs.Closing.all_of_others, proofs.Closing.nothing_of, proofs.Closing.one_after_another, proofs.InverseEnds.cleared, proofs.Openness.agrees_in, proofs.Openness.keeps_fewer, proofs.Openness.active_fits, proofs.Tables.removed_elsewhere, proofs.Tables.removed_here, proofs.Tables.removed_inserted}
use Rattle.mlt_manager_invariant.proofs.LastBack.{IsLeft, led_back, left, may_undo, pages_now, room_before}

module _ (s : State) (i : ℕ) (inverting : Option OperationFields) (before after : Transaction) (shared : SharedState)
    (sound : IsSound s) (was : map.get s.txs i ≡ Some before) (takes : TakesLastBack s inverting before after shared Answer.Aborted) where
  abbrev last : TakesLast before.subtx.tx before.undo after.undo takes.ends.between shared
  last = takes.ends.takes

  abbrev led : (base : Base) × Step base last.off.last s.base × PagesMeanHistory (state_undone (abstract_state_of s) i (pages_now s i before after shared Answer.Aborted sound was inverting takes last.off) base)
  led = led_back s i before after shared Answer.Aborted sound was inverting takes last.off

  abbrev rest : IsLeft s i after takes.ends.between shared last.off.last
  rest = left s i before after shared Answer.Aborted sound was inverting takes last.off

  abbrev now : State
  now = with_aborted s i shared led.0

  abbrev old_items : List TraceItem
  old_items = s.shared.history.items

  abbrev old_lists : Lists (ObjOp × ObjReply)
  old_lists = lists_in (abstract_state_of s)

  number : before.subtx.tx ≡ i
  number = (sound.fits i before was).number

  -- ---- the history

  items_now : shared.history.items ≡ (old_items ++ TraceItem.Back i ∷ []) ++ TraceItem.Abort i ∷ []
  items_now =
      last.items ∙ ap (λ (h : ItemsWithRoom). h.items ++ TraceItem.Back before.subtx.tx ∷ TraceItem.Abort before.subtx.tx ∷ []) rest.history
      ∙ ap (λ n. old_items ++ TraceItem.Back n ∷ TraceItem.Abort n ∷ []) number ∙ sym (append_assoc old_items (TraceItem.Back i ∷ []) (TraceItem.Abort i ∷ []))

  history_now : entries_of shared.history.items ≡ (entries_of old_items ++ TookBack i ∷ []) ++ Closed i ∷ []
  history_now =
      ap entries_of items_now ∙ entries_of-append (old_items ++ TraceItem.Back i ∷ []) (TraceItem.Abort i ∷ [])
      ∙ ap (λ (h : List (Entry (ObjOp × ObjReply))). h ++ Closed i ∷ []) (entries_of-append old_items (TraceItem.Back i ∷ []))

  lists_between : lists_of (entries_of old_items ++ TookBack i ∷ []) ≡ after_entry old_lists (TookBack i)
  lists_between = after_entries-push (entries_of old_items) no_lists (TookBack i)

  lists_now : lists_in (abstract_state_of now) ≡ after_entry (after_entry old_lists (TookBack i)) (Closed i)
  lists_now =
      ap lists_of history_now ∙ after_entries-push (entries_of old_items ++ TookBack i ∷ []) no_lists (Closed i)
      ∙ ap (λ (l : Lists (ObjOp × ObjReply)). after_entry l (Closed i)) lists_between

  same_begun : begun_txs shared.history.items ≡ begun_txs old_items
  same_begun = ap begun_txs items_now ∙ no_begin (old_items ++ TraceItem.Back i ∷ []) (TraceItem.Abort i) refl ∙ no_begin old_items (TraceItem.Back i) refl

  same_commits : commit_numbers shared.history.items ≡ commit_numbers old_items
  same_commits = ap commit_numbers items_now ∙ no_commit (old_items ++ TraceItem.Back i ∷ []) (TraceItem.Abort i) refl ∙ no_commit old_items (TraceItem.Back i) refl

  abbrev shorter : ℕ → List (ObjOp × ObjReply)
  shorter = (after_entry old_lists (TookBack i)).transcripts

  none_left : shorter i ≡ []
  none_left =
      (changed old_lists.transcripts i (but_last (old_lists.transcripts i))).0 ∙ ap but_last (sym (sound.fits i before was).stands ∙ last.off.entries)
      ∙ but_last-push after.undo.entries last.off.last ∙ last.none

  -- ---- what runs

  is_closed : after_close (cleared s i shared) i ≡ all_of now
  is_closed = ap (λ images. record { images = images; locks = shared.pages.locks; store = shared.pages.store }) (removed_inserted s.images i map.empty)

  runs : KeepsRunning i (all_of s) (all_of now)
  runs =
      let keeps = rest.cleared.keeps in
      subst (KeepsRunning i (all_of s)) is_closed
      (one_after_another i (all_of s) (cleared s i shared) (after_close (cleared s i shared) i) keeps (close_keeps (cleared s i shared) i keeps.may rest.cleared.nothing))

  -- ---- the match

  abbrev pages : map.FinMap nat_cmp Page
  pages = pages_now s i before after shared Answer.Aborted sound was inverting takes last.off

  closes : PagesMeanHistory (with_closed (state_undone (abstract_state_of s) i pages led.0) i (undoing_of now.txs))
  closes =
      let may = may_undo s i before after shared Answer.Aborted sound was inverting takes last.off in
      let same : SameElsewhere (undoing_of s.txs) (undoing_of now.txs) i = λ j ne. ap is_undoing_at (removed_elsewhere s.txs i j ne) in
      close_keeps_match (state_undone (abstract_state_of s) i pages led.0) i (undoing_of now.txs) led.2 may.is_open same (ap (λ (l : Lists (ObjOp × ObjReply)). l.transcripts i) lists_between ∙ none_left)

  match : PagesMeanHistory (abstract_state_of now)
  match =
      let clean = close_clean (cleared s i shared) i rest.cleared.keeps.may rest.cleared.nothing in
      let new = clean_pages now.images shared.pages.store.pages in
      subst (λ (h : List (Entry (ObjOp × ObjReply))). PagesMeanHistory (record (abstract_state_of now) { history = h })) (sym history_now)
      (same_pages_match (with_closed (state_undone (abstract_state_of s) i pages led.0) i (undoing_of now.txs)) new closes (λ q. ap (λ all. clean_of all q) (sym is_closed) ∙ ap (λ f. f q) clean))

  -- ---- who is open

  kept : (j : ℕ) → map.get now.images j ≡ images_kept (map.get now.txs j)
  kept j = elim (cases_eq j i) [
    | inl here ↦ ap (map.get now.images) here ∙ removed_here s.images i ∙ sym (ap images_kept (ap (map.get now.txs) here ∙ removed_here s.txs i))
    | inr differ ↦ removed_elsewhere s.images i j differ ∙ sound.kept j ∙ ap images_kept (sym (removed_elsewhere s.txs i j differ))
  ]

  opened : (j : ℕ) → set.contains now.active j ≡ is_some (map.get now.txs j)
  opened j = elim (cases_eq j i) [
    | inl here ↦ ap (set.contains now.active) here ∙ closed_here s.active i ∙ sym (ap is_some (ap (map.get now.txs) here ∙ removed_here s.txs i))
    | inr differ ↦ removed_beside s.active i j differ ∙ sound.opened j ∙ ap is_some (sym (removed_elsewhere s.txs i j differ))
  ]

  reserved : SameReservations s.shared.objects.reserved shared.objects.reserved i
  reserved other ne = last.others other (λ e. ne (e ∙ number)) ∙ ap (λ (l : Locks). reservation_of l.reserved other) rest.objects

  other_fits : (j : ℕ) (t : Transaction) → j ≢ i → map.get s.txs j ≡ Some t → Fits now j t
  other_fits j t ne is =
      let fits = sound.fits j t is in
      let same = (changed shorter i []).1 j ne ∙ (changed old_lists.transcripts i (but_last (old_lists.transcripts i))).1 j ne in
      record {
        number = fits.number;
        stands = fits.stands ∙ sym same ∙ ap (λ (l : Lists (ObjOp × ObjReply)). l.transcripts j) (sym lists_now);
        few = fits.few;
        where_at = active_fits t.at i j s now t (record {
          other = ne;
          runs = runs;
          context = refl;
          keeps = keeps_fewer s j t now.active sound is (no_more_by_end (abstract_state_of s) (view_of (local_of (all_of s) j)) sound.match (agrees_in s j t sound is) i);
          reserved = reserved;
          max_ops = refl;
        }) fits.where_at;
      }

  fits_all : (j : ℕ) (t : Transaction) → map.get now.txs j ≡ Some t → Fits now j t
  fits_all j t is = elim (cases_eq j i) [
    | inl here ↦ absurd (none-some t (sym (removed_here s.txs i) ∙ ap (map.get now.txs) (sym here) ∙ is))
    | inr differ ↦ other_fits j t differ (sym (removed_elsewhere s.txs i j differ) ∙ is)
  ]

  -- ---- what is held, and the room

  held_now : shared.objects.held ≡ filter (is_of_other i) s.shared.objects.held
  held_now = last.held ∙ ap (λ (l : Locks). filter (is_of_other before.subtx.tx) l.held) rest.objects ∙ ap (λ n. filter (is_of_other n) s.shared.objects.held) number

  held : (j : ℕ) → items_of j shared.objects.held ≡ (lists_in (abstract_state_of now)).held j
  held j =
      let by_lists = ap (λ (l : Lists (ObjOp × ObjReply)). l.held j) (sym lists_now) in
      let list = changed old_lists.held i [] in
      ap (items_of j) held_now ∙ elim (cases_eq j i) [
        | inl here ↦ ap (λ n. items_of n (filter (is_of_other i) s.shared.objects.held)) here ∙ nothing_of i s.shared.objects.held ∙ sym list.0
            ∙ ap (after_entry (after_entry old_lists (TookBack i)) (Closed i)).held (sym here)
        | inr differ ↦ all_of_others i j s.shared.objects.held differ ∙ sound.held j ∙ sym (list.1 j differ)
      ] ∙ by_lists

  room_now : shared.history.room ≡ total_room room_of now.txs
  room_now =
      let was_room = sound.room in
      let less = last.room ∙ ap (λ (h : ItemsWithRoom). h.room) rest.history in
      let total = total_room-remove room_of s.txs i before was in
      let old = room_before s i before after shared Answer.Aborted sound was inverting takes last.off in
      let none = ap length last.none in
      omega (arith, was_room, less, total, old, none)

  now_sound : IsSound now
  now_sound = record {
    match = match;
    running = runs.may;
    kept = kept;
    opened = opened;
    fits = fits_all;
    held = held;
    begun = subst (CountsFrom 1) (sym same_begun) sound.begun;
    count = sound.count ∙ sym (ap length same_begun);
    commits = subst (CountsFrom 1) (sym same_commits) sound.commits;
    room = room_now;
  }

  -- **All that is always true stays true, where it was the last.**
  pub aborted_sound : LedBack s before after (with_aborted s i shared)
  aborted_sound = record { last = last.off.last; base = led.0; entries = last.off.entries; step = led.1; sound = now_sound }
