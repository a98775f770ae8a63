-- A transaction that commits, or is closed with nothing left that it did
use Rattle.std.proofs.Common.{◌≡◌, ◌≢◌, ℕ, ◌+◌, List, [], ◌∷◌, ◌++◌, length, None, Some, is_some, refl, sym, ap, subst, ◌∙◌, inl, inr, arith, filter}
use Rattle.std.specs.FinMap as map
use Rattle.std.specs.FinSet as set
use Rattle.mlt_manager_invariant.proofs.Names.{cases_eq, ObjOp, ObjReply, Entry, Lists, after_entry, lists_of, no_lists, items_of, SameElsewhere, after_entries-push, changed, TraceItem, is_of_other, entries_of, AreCounted, CountsFrom, begun_txs, entries_of-append, no_begin, no_commit, total_room-remove, LockedStore, clean_pages, view_of, AllRunning, HoldsNothing, KeepsRunning, after_close, clean_of, local_of, close_clean, close_keeps, PagesMeanHistory, AbstractState, lists_in, same_pages_match, no_more_by_end, SharedState, At, Transaction, Fits, FitsAt, IsSound, State, all_of, images_kept, is_undoing_at, room_of, undoing_of, abstract_state_of}
use Rattle.mlt_order.specs.Tables.{table_with}
use Rattle.mlt_trace.{specs.Entries.entry_of, specs.Numbers.commit_count, proofs.ItemLaws.commit_keeps_counted}
use Rattle.mlt_tx_meaning.specs.Events.{IsOpenAt}
use Rattle.mlt_tx_meaning.proofs.OpenNumbers as numbers
use Rattle.mlt_tx_meaning.proofs.Transactions as meeting
use Rattle.mlt_manager_invariant.{specs.Transactions.Ends, specs.Transactions.without_transaction, proofs.Closing.all_of_others, proofs.Closing.nothing_of, proofs.Openness.agrees_in, proofs.Openness.keeps_fewer, proofs.Openness.active_fits, proofs.Tables.removed_elsewhere, proofs.Tables.removed_here}

-- the abstract state in which transaction i is open no more, and that has this entry of it
abbrev ended_state : State → ℕ → Entry (ObjOp × ObjReply) → AbstractState
ended_state s i entry = record (abstract_state_of s) {
  active = set.remove s.active i;
  undoing = undoing_of (map.remove s.txs i);
  history = entries_of s.shared.history.items ++ entry ∷ [];
}

-- what a commit and a close have in common
record IsEnd (s : State) (i : ℕ) (item : TraceItem) : Type 0 where
  match : PagesMeanHistory (ended_state s i (entry_of item))
  transcripts : (after_entry (lists_in (abstract_state_of s)) (entry_of item)).transcripts ≡ table_with (lists_in (abstract_state_of s)).transcripts i []
  held : (after_entry (lists_in (abstract_state_of s)) (entry_of item)).held ≡ table_with (lists_in (abstract_state_of s)).held i []
  begins : begun_txs (item ∷ []) ≡ []
  commits : AreCounted (s.shared.history.items ++ item ∷ [])

module _ (s : State) (i : ℕ) (before : Transaction) (shared : SharedState) (item : TraceItem) (sound : IsSound s) (was : map.get s.txs i ≡ Some before) (k : Ends s i before shared item) (e : IsEnd s i item) where
  abbrev now : State
  now = without_transaction s i shared

  nothing : HoldsNothing (all_of s) i
  nothing = subst (λ (a : At). FitsAt a s i before) k.idle (sound.fits i before was).where_at

  same_all : all_of now ≡ after_close (all_of s) i
  same_all = ap (λ (p : LockedStore). let all : AllRunning = record { images = map.remove s.images i; locks = p.locks; store = p.store } in all) k.pages

  keeps : KeepsRunning i (all_of s) (all_of now)
  keeps = subst (λ (all : AllRunning). KeepsRunning i (all_of s) all) (sym same_all) (close_keeps (all_of s) i sound.running nothing)

  same_clean : clean_of (all_of now) ≡ clean_of (all_of s)
  same_clean = ap clean_of same_all ∙ close_clean (all_of s) i sound.running nothing

  entries_now : entries_of shared.history.items ≡ entries_of s.shared.history.items ++ entry_of item ∷ []
  entries_now = ap entries_of k.items ∙ entries_of-append s.shared.history.items (item ∷ [])

  same_lists : lists_in (abstract_state_of now) ≡ after_entry (lists_in (abstract_state_of s)) (entry_of item)
  same_lists = ap lists_of entries_now ∙ after_entries-push (entries_of s.shared.history.items) no_lists (entry_of item)

  transcripts_now : (lists_in (abstract_state_of now)).transcripts ≡ table_with (lists_in (abstract_state_of s)).transcripts i []
  transcripts_now = ap (λ (l : Lists (ObjOp × ObjReply)). l.transcripts) same_lists ∙ e.transcripts

  held_now : (lists_in (abstract_state_of now)).held ≡ table_with (lists_in (abstract_state_of s)).held i []
  held_now = ap (λ (l : Lists (ObjOp × ObjReply)). l.held) same_lists ∙ e.held

  match : PagesMeanHistory (abstract_state_of now)
  match =
      let state = ended_state s i (entry_of item) in
      let pages = clean_pages (map.remove s.images i) shared.pages.store.pages in
      let same = same_pages_match state pages e.match (λ q. ap (λ f. f q) same_clean) in
      subst (λ (h : List (Entry (ObjOp × ObjReply))). PagesMeanHistory (record state { pages = pages; history = h })) (sym entries_now) same

  kept : (j : ℕ) → map.get (map.remove s.images i) j ≡ images_kept (map.get (map.remove s.txs i) j)
  kept j = elim (cases_eq j i) [
    | inl here ↦
        ap (map.get (map.remove s.images i)) here ∙ removed_here s.images i
        ∙ sym (ap images_kept (ap (map.get (map.remove s.txs i)) here ∙ removed_here s.txs i))
    | inr differ ↦ keeps.images j differ ∙ sound.kept j ∙ ap images_kept (sym (removed_elsewhere s.txs i j differ))
  ]

  opened : (j : ℕ) → set.contains (set.remove s.active i) j ≡ is_some (map.get (map.remove s.txs i) j)
  opened j = elim (cases_eq j i) [
    | inl here ↦ ap (set.contains (set.remove s.active i)) here ∙ numbers.removed_here s.active i ∙ sym (ap is_some (ap (map.get (map.remove s.txs i)) here ∙ removed_here s.txs i))
    | inr differ ↦ numbers.removed_beside s.active i j differ ∙ sound.opened j ∙ ap is_some (sym (removed_elsewhere s.txs i j differ))
  ]

  other_fits : (j : ℕ) (u : Transaction) → j ≢ i → map.get s.txs j ≡ Some u → Fits now j u
  other_fits j u ne is =
      let fits = sound.fits j u is in
      let list = (changed (lists_in (abstract_state_of s)).transcripts i []).1 j ne in
      record {
        number = fits.number;
        stands = fits.stands ∙ sym list ∙ sym (ap (λ f. f j) transcripts_now);
        few = fits.few;
        where_at = active_fits u.at i j s now u (record {
          other = ne;
          runs = keeps;
          context = refl;
          keeps = keeps_fewer s j u now.active sound is (no_more_by_end (abstract_state_of s) (view_of (local_of (all_of s) j)) sound.match (agrees_in s j u sound is) i);
          reserved = k.reserved;
          max_ops = refl;
        }) fits.where_at;
      }

  fits_all : (j : ℕ) (u : Transaction) → map.get (map.remove s.txs i) j ≡ Some u → Fits now j u
  fits_all j u is = elim (cases_eq j i) [
    | inl here ↦
        let found : None ≡ Some u = sym (removed_here s.txs i) ∙ sym (ap (map.get (map.remove s.txs i)) here) ∙ is in
        absurd (cc found)
    | inr differ ↦ other_fits j u differ (sym (removed_elsewhere s.txs i j differ) ∙ is)
  ]

  held : (j : ℕ) → items_of j shared.objects.held ≡ (lists_in (abstract_state_of now)).held j
  held j =
      let list = changed (lists_in (abstract_state_of s)).held i [] in
      ap (items_of j) k.held ∙ elim (cases_eq j i) [
        | inl here ↦
            ap (λ n. items_of n (filter (is_of_other i) s.shared.objects.held)) here ∙ nothing_of i s.shared.objects.held
            ∙ sym (ap (table_with (lists_in (abstract_state_of s)).held i []) here ∙ list.0)
        | inr differ ↦ all_of_others i j s.shared.objects.held differ ∙ sound.held j ∙ sym (list.1 j differ)
      ] ∙ sym (ap (λ f. f j) held_now)

  begun_still : begun_txs shared.history.items ≡ begun_txs s.shared.history.items
  begun_still = ap begun_txs k.items ∙ no_begin s.shared.history.items item e.begins

  -- All that is always true stays true.
  end_sound : IsSound now
  end_sound = record {
    match = match;
    running = keeps.may;
    kept = kept;
    opened = opened;
    fits = fits_all;
    held = held;
    begun = subst (CountsFrom 1) (sym begun_still) sound.begun;
    count = sound.count ∙ sym (ap length begun_still);
    commits = subst AreCounted (sym k.items) e.commits;
    room = omega (arith, k.room, sound.room, total_room-remove room_of s.txs i before was);
  }

module _ (s : State) (i : ℕ) (before : Transaction) (shared : SharedState) (sound : IsSound s) (was : map.get s.txs i ≡ Some before) where
  is_open : IsOpenAt (abstract_state_of s) i
  is_open = sound.opened i ∙ ap is_some was

  same_undoing : SameElsewhere (undoing_of s.txs) (undoing_of (map.remove s.txs i)) i
  same_undoing j ne = ap is_undoing_at (removed_elsewhere s.txs i j ne)

  -- **A commit keeps all that is always true,**
  pub commit_sound : Ends s i before shared (TraceItem.Commit i (commit_count s.shared.history.items + 1)) → IsSound (without_transaction s i shared)
  commit_sound k =
      let items = s.shared.history.items in
      end_sound s i before shared (TraceItem.Commit i (commit_count items + 1)) sound was k (record {
        match = meeting.commit_keeps (abstract_state_of s) i (undoing_of (map.remove s.txs i)) sound.match is_open same_undoing;
        transcripts = refl;
        held = refl;
        begins = refl;
        commits = commit_keeps_counted items i sound.commits;
      })

  -- **and so does a close where nothing is left.**
  pub close_sound : before.undo.entries ≡ [] → Ends s i before shared (TraceItem.Abort i) → IsSound (without_transaction s i shared)
  close_sound none k =
      let items = s.shared.history.items in
      end_sound s i before shared (TraceItem.Abort i) sound was k (record {
        match = meeting.close_keeps (abstract_state_of s) i (undoing_of (map.remove s.txs i)) sound.match is_open same_undoing (sym (sound.fits i before was).stands ∙ none);
        transcripts = refl;
        held = refl;
        begins = refl;
        commits = subst (CountsFrom 1) (sym (no_commit items (TraceItem.Abort i) refl)) sound.commits;
      })
