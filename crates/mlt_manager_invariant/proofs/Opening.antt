-- The state in which a manager begins
use Rattle.std.proofs.Common.{◌≡◌, ℕ, ◌≤◌, false, List, [], None, Option, is_some, sym, ap, subst, ◌∙◌, nat_cmp}
use Rattle.std.specs.FinMap as map
use Rattle.std.specs.FinSet as set
use Rattle.mlt_manager_invariant.proofs.Names.{none-some, ObjOp, ObjReply, Page, Entry, lists_of, items_of, Locks, TraceItem, entries_of, AreBegunInOrder, AreCounted, begin_count, clean_pages, same_pages_match, AllMayStep, clean_of, PagesMeanHistory, lists_in, SharedState, Transaction, IsSound, all_of, images_kept, room_of, undoing_of, abstract_state_of}
use Rattle.mlt_page_locks.specs.LockTables.{no_locks}
use Rattle.mlt_object_locks.specs.Locks as objects
use Rattle.mlt_trace.proofs.RoomLaws.{total_room-empty}
use Rattle.mlt_hash_form.specs.{Changes.IsOpening, File.GivesPseudokeys}
use Rattle.mlt_hash_access.{specs.Running.nobody_running, proofs.AllRunning.first_clean, proofs.AllRunning.first_may_step}
use Rattle.mlt_tx_meaning.{specs.Events.new_state, proofs.Opening.opening_matches}
use Rattle.mlt_manager_invariant.specs.Opening.{opening_state}

nothing_open : (j : ℕ) → set.contains (set.empty {R = nat_cmp}) j ≡ false
nothing_open j = set.contains-empty nat_cmp j

nothing_at : {X : Type 0} (j : ℕ) → map.get {R = nat_cmp} (map.empty {X = X}) j ≡ None
nothing_at {X} j = map.get-empty {X = X} nat_cmp j

module _ (bits : ℕ → ℕ) (root max_depth max_ops max_open dir bucket : ℕ) (shared : SharedState)
    (keys : GivesPseudokeys bits) (small : max_depth ≤ 16) (opening : IsOpening (map.get shared.pages.store.pages) root dir bucket)
    (locks : shared.pages.locks ≡ no_locks max_open) (held : shared.objects ≡ objects.no_locks) (items : shared.history.items ≡ []) (room : shared.history.room ≡ 0) where
  -- nobody runs
  alike : all_of (opening_state bits root max_depth max_ops shared) ≡ nobody_running max_open shared.pages.store
  alike p = record { images = map.empty; locks = locks p; store = shared.pages.store }

  same_pages : (q : ℕ) → map.get (clean_pages map.empty shared.pages.store.pages) q ≡ map.get shared.pages.store.pages q
  same_pages q = ap (λ (f : ℕ → Option Page). f q) (ap clean_of alike ∙ first_clean max_open shared.pages.store)

  match : PagesMeanHistory (abstract_state_of (opening_state bits root max_depth max_ops shared))
  match =
      let undoing = undoing_of map.empty in
      let opened = opening_matches bits root max_depth shared.pages.store.pages undoing dir bucket keys small opening in
      let clean = same_pages_match (new_state bits root max_depth shared.pages.store.pages undoing) (clean_pages map.empty shared.pages.store.pages) opened same_pages in
      subst (λ (h : List (Entry (ObjOp × ObjReply))). PagesMeanHistory (record (new_state bits root max_depth (clean_pages map.empty shared.pages.store.pages) undoing) { history = h })) (sym (ap entries_of items)) clean

  no_lists_yet : lists_in (abstract_state_of (opening_state bits root max_depth max_ops shared)) ≡ lists_of []
  no_lists_yet = ap (λ (l : List TraceItem). lists_of (entries_of l)) items

  -- **A manager begins as it always is.**
  pub opening_sound : IsSound (opening_state bits root max_depth max_ops shared)
  opening_sound = record {
    match = match;
    running = subst AllMayStep (sym alike) (first_may_step max_open shared.pages.store);
    kept = λ j. nothing_at j ∙ sym (ap images_kept (nothing_at j));
    opened = λ j. nothing_open j ∙ sym (ap is_some (nothing_at {X = Transaction} j));
    fits = λ j t is. absurd (none-some t (sym (nothing_at j) ∙ is));
    held = λ j. ap (λ (l : Locks). items_of j l.held) held ∙ sym (ap (λ l. l.held j) no_lists_yet);
    begun = subst AreBegunInOrder (sym items) tt;
    count = sym (ap begin_count items);
    commits = subst AreCounted (sym items) tt;
    room = room ∙ sym (total_room-empty room_of);
  }
