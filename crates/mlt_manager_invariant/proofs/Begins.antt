-- A transaction that begins
use Rattle.std.proofs.Common.{◌≡◌, ◌≢◌, ℕ, ◌≤◌, ◌<◌, ◌+◌, false, List, [], ◌∷◌, ◌++◌, length, None, Some, is_some, refl, sym, ap, subst, ◌∙◌, inl, inr, arith}
use Rattle.std.specs.FinMap as map
use Rattle.std.specs.FinSet as set
use Rattle.mlt_manager_invariant.proofs.Names.{cases_eq, false≢true, ObjOp, ObjReply, Entry, Lists, after_entry, lists_of, no_lists, items_of, after_entries-push, TraceItem, Locks, reservation_of, entries_of, AreBegunInOrder, AreCounted, CountsFrom, begin_count, entries_of-append, no_commit, Running, LockedStore, clean_pages, view_of, AllRunning, HoldsNothing, KeepsRunning, clean_of, is_open, local_of, PagesMeanHistory, lists_in, same_pages_match, SharedState, At, Transaction, Fits, FitsAt, IsSound, State, all_of, images_kept, is_undoing_at, pending_room, room_of, undoing_of, abstract_state_of}
use Rattle.mlt_order.specs.Histories.Entry.{Begun}
use Rattle.mlt_trace.proofs.{ItemLaws.begin_keeps_order, ItemLaws.begins_counted, RoomLaws.total_room-insert_new}
use Rattle.mlt_page_subtx.proofs.ImageLaws.{not_there, not_true}
use Rattle.mlt_hash_access.{specs.Running.after_begin, proofs.AllEvents.begin_clean, proofs.AllEvents.begin_keeps, proofs.AllEvents.nothing_at_begin}
use Rattle.mlt_tx_meaning.{specs.Events.with_begun, proofs.Matches.lists_kept, proofs.Walks.no_more_by_begin}
use Rattle.mlt_tx_meaning.proofs.OpenNumbers as numbers
use Rattle.mlt_tx_meaning.proofs.Transactions as meeting
use Rattle.mlt_manager_invariant.{specs.Transactions.Begins, specs.Transactions.with_next, proofs.Lengths.as_many_images, proofs.Openness.agrees_in, proofs.Openness.keeps_fewer, proofs.Openness.active_fits, proofs.Tables.fits_after, proofs.Tables.inserted_elsewhere, proofs.Tables.inserted_here}

module _ (s : State) (t : Transaction) (shared : SharedState) (sound : IsSound s) (few : map.len s.txs < s.shared.pages.locks.max_open) (k : Begins s t shared) where
  abbrev i : ℕ
  i = s.begun + 1

  abbrev now : State
  now = with_next s t shared

  not_open : set.contains s.active i ≡ false
  not_open = not_true (set.contains s.active i) (λ is. let low = sound.match.file.ghosts.opened i is in absurd (omega (arith, low)))

  no_transaction : map.get s.txs i ≡ None
  no_transaction = not_there (map.get s.txs i) (sym (sound.opened i) ∙ not_open)

  closed : is_open (all_of s) i ≡ false
  closed = ap is_some (sound.kept i ∙ ap images_kept no_transaction)

  same_all : all_of now ≡ after_begin (all_of s) i
  same_all = ap (λ (p : LockedStore). let all : AllRunning = record { images = map.insert s.images i map.empty; locks = p.locks; store = p.store } in all) k.pages

  fewer : map.len s.images < s.shared.pages.locks.max_open
  fewer = let same = as_many_images s sound in omega (arith, same, few)

  keeps : KeepsRunning i (all_of s) (all_of now)
  keeps = subst (λ (all : AllRunning). KeepsRunning i (all_of s) all) (sym same_all) (begin_keeps (all_of s) i sound.running fewer)

  same_clean : clean_of (all_of now) ≡ clean_of (all_of s)
  same_clean = ap clean_of same_all ∙ begin_clean (all_of s) i sound.running closed

  entries_now : entries_of shared.history.items ≡ entries_of s.shared.history.items ++ Begun i ∷ []
  entries_now = ap entries_of k.items ∙ entries_of-append s.shared.history.items (TraceItem.Begin i ∷ [])

  same_lists : lists_in (abstract_state_of now) ≡ after_entry (lists_in (abstract_state_of s)) (Begun i)
  same_lists = ap lists_of entries_now ∙ after_entries-push (entries_of s.shared.history.items) no_lists (Begun i)

  same_transcripts : (j : ℕ) → (lists_in (abstract_state_of now)).transcripts j ≡ (lists_in (abstract_state_of s)).transcripts j
  same_transcripts j = ap (λ (l : Lists (ObjOp × ObjReply)). l.transcripts j) same_lists

  match : PagesMeanHistory (abstract_state_of now)
  match =
      let undoing = undoing_of (map.insert s.txs i t) in
      let pages = clean_pages (map.insert s.images i map.empty) shared.pages.store.pages in
      let begun = meeting.begin_keeps (abstract_state_of s) undoing sound.match (λ j ne. ap is_undoing_at (inserted_elsewhere s.txs i t j ne)) in
      let same = same_pages_match (with_begun (abstract_state_of s) undoing) pages begun (λ q. ap (λ f. f q) same_clean) in
      subst (λ (h : List (Entry (ObjOp × ObjReply))). PagesMeanHistory (record (with_begun (abstract_state_of s) undoing) { pages = pages; history = h })) (sym entries_now) same

  kept : (j : ℕ) → map.get (map.insert s.images i map.empty) j ≡ images_kept (map.get (map.insert s.txs i t) j)
  kept j = elim (cases_eq j i) [
    | inl here ↦
        ap (map.get (map.insert s.images i map.empty)) here ∙ inserted_here s.images i map.empty ∙ ap (λ (r : Running). Some r.images) (sym k.subtx)
        ∙ sym (ap images_kept (ap (map.get (map.insert s.txs i t)) here ∙ inserted_here s.txs i t))
    | inr differ ↦ keeps.images j differ ∙ sound.kept j ∙ ap images_kept (sym (inserted_elsewhere s.txs i t j differ))
  ]

  opened : (j : ℕ) → set.contains (set.insert s.active i) j ≡ is_some (map.get (map.insert s.txs i t) j)
  opened j = elim (cases_eq j i) [
    | inl here ↦ ap (set.contains (set.insert s.active i)) here ∙ numbers.inserted_here s.active i ∙ sym (ap is_some (ap (map.get (map.insert s.txs i t)) here ∙ inserted_here s.txs i t))
    | inr differ ↦ numbers.inserted_beside s.active i j differ ∙ sound.opened j ∙ ap is_some (sym (inserted_elsewhere s.txs i t j differ))
  ]

  nothing_stands : (lists_in (abstract_state_of s)).transcripts i ≡ []
  nothing_stands = ((lists_kept (abstract_state_of s) sound.match).only i (λ runs. false≢true (sym not_open ∙ (sound.match.records.running i).1 runs))).0

  nothing : HoldsNothing (all_of now) i
  nothing = subst (λ (all : AllRunning). HoldsNothing all i) (sym same_all) (nothing_at_begin (all_of s) i sound.running closed)

  own_fits : Fits now i t
  own_fits = record {
    number = ap (λ (r : Running). r.tx) k.subtx;
    stands = k.entries ∙ sym nothing_stands ∙ sym (same_transcripts i);
    few = subst (λ (e : List (ObjOp × ObjReply)). length e ≤ s.max_ops) (sym k.entries) (omega arith);
    where_at = subst (λ (a : At). FitsAt a now i t) (sym k.idle) nothing;
  }

  other_fits : (j : ℕ) (u : Transaction) → j ≢ i → map.get s.txs j ≡ Some u → Fits now j u
  other_fits j u ne is =
      let fits = sound.fits j u is in
      record {
        number = fits.number;
        stands = fits.stands ∙ sym (same_transcripts j);
        few = fits.few;
        where_at = active_fits u.at i j s now u (record {
          other = ne;
          runs = keeps;
          context = refl;
          keeps = keeps_fewer s j u now.active sound is (no_more_by_begin (abstract_state_of s) (view_of (local_of (all_of s) j)) sound.match (agrees_in s j u sound is));
          reserved = λ v differ. ap (λ (o : Locks). reservation_of o.reserved v) k.objects;
          max_ops = refl;
        }) fits.where_at;
      }

  fits_all : (j : ℕ) (u : Transaction) → map.get (map.insert s.txs i t) j ≡ Some u → Fits now j u
  fits_all = fits_after s now i t refl own_fits other_fits

  in_order : AreBegunInOrder shared.history.items
  in_order =
      let items = s.shared.history.items in
      let next : AreBegunInOrder (items ++ TraceItem.Begin (begin_count items + 1) ∷ []) = begin_keeps_order items sound.begun in
      let named : AreBegunInOrder (items ++ TraceItem.Begin i ∷ []) = subst (λ (n : ℕ). AreBegunInOrder (items ++ TraceItem.Begin (n + 1) ∷ [])) (sym sound.count) next in
      subst AreBegunInOrder (sym k.items) named

  count : i ≡ begin_count shared.history.items
  count = ap (λ (n : ℕ). n + 1) sound.count ∙ sym (ap begin_count k.items ∙ begins_counted s.shared.history.items i)

  commits : AreCounted shared.history.items
  commits =
      let items = s.shared.history.items in
      subst AreCounted (sym k.items) (subst (CountsFrom 1) (sym (no_commit items (TraceItem.Begin i) refl)) sound.commits)

  room_of_new : room_of t ≡ 1
  room_of_new =
      let none : length t.undo.entries ≡ 0 = ap length k.entries in
      let pending : pending_room t.at ≡ 0 = ap pending_room k.idle in
      omega (arith, none, pending)

  -- **All that is always true stays true.**
  pub begin_sound : IsSound now
  begin_sound = record {
    match = match;
    running = keeps.may;
    kept = kept;
    opened = opened;
    fits = fits_all;
    held = λ j. ap (λ (o : Locks). items_of j o.held) k.objects ∙ sound.held j ∙ ap (λ (l : Lists (ObjOp × ObjReply)). l.held j) (sym same_lists);
    begun = in_order;
    count = count;
    commits = commits;
    room = omega (arith, k.room, room_of_new, sound.room, total_room-insert_new room_of s.txs i t no_transaction);
  }
