-- The end of an operation
use Rattle.std.proofs.Common.{◌≡◌, ◌≢◌, ℕ, ◌+◌, Bool, true, false, List, [], ◌∷◌, ◌++◌, length, Option, Some, is_some, refl, sym, ap, subst, ◌∙◌, inl, inr, arith, nat_cmp, length-append, Contains}
use Rattle.std.specs.FinMap as map
use Rattle.mlt_manager_invariant.proofs.Names.{cases_eq, Base, Step, ObjOp, ObjReply, Page, released, Entry, Lists, after_entry, lists_of, no_lists, items_of, after_entries-push, Held, HoldsClash, SameReservations, TraceItem, entries_of, AreBegunInOrder, AreCounted, CountsFrom, begin_count, entries_of-append, no_begin, no_commit, total_room-insert, Running, view_of, AllRunning, HoldsNothing, KeepsRunning, after_end, clean_of, is_open, local_of, clean_pages, clashes, agrees_with_each, end_clean, end_keeps, nothing_at_end, EndsWith, sees_held_alone, IsOpInRange, PagesMeanHistory, lists_in, Do, OperationFields, SharedState, At, Transaction, Fits, FitsAt, HasPending, IsSound, State, all_of, images_kept, is_undoing, is_undoing_at, pending_room, room_of, undoing_of, abstract_state_of}
use Rattle.mlt_order.{specs.Histories.Entry.Did, proofs.Tables.with_entry-other, proofs.Tables.with_entry-same}
use Rattle.mlt_tx_meaning.{specs.Events.MayDo, specs.Events.with_done, proofs.Operations.operation_keeps}
use Rattle.mlt_manager_invariant.{specs.Events.EndsPending, specs.Events.with_end, proofs.Found.IsAnswered, proofs.Found.is_answered, proofs.Grants.granted_elsewhere, proofs.Grants.granted_here, proofs.Grants.nothing_clashes, proofs.Others.still_fits, proofs.Tables.fits_after, proofs.Tables.kept_after, proofs.Tables.opened_after, proofs.Tables.same_undoing}

module _ (s : State) (i : ℕ) (o : OperationFields) (before after : Transaction) (shared : SharedState) (told : ObjReply)
    (sound : IsSound s) (was : map.get s.txs i ≡ Some before) (e : EndsPending s i o before after shared told) where
  own : Fits s i before
  own = sound.fits i before was

  pending : HasPending s i before o
  pending = subst (λ (a : At). FitsAt a s i before) e.pending own.where_at

  is_open_here : is_open (all_of s) i ≡ true
  is_open_here = ap is_some (sound.kept i ∙ ap images_kept was)

  same_op : pending.op ≡ e.ends.op
  same_op = let both : Do pending.op ≡ Do e.ends.op = sym pending.asked ∙ e.ends.asked in cc

  -- the state of all running subtransactions is the one after the end
  ended : (base : Base) → all_of (with_end s i after shared base) ≡ after_end (all_of s) i
  ended base p = record {
    images = map.insert s.images i map.empty;
    locks = (e.ends.tells.1.ends.locks ∙ ap (λ t. released s.shared.pages.locks t) own.number) p;
    store = e.ends.tells.1.ends.store p;
  }

  -- the pages that are clean then
  pages : map.FinMap nat_cmp Page
  pages = clean_pages (map.insert s.images i map.empty) shared.pages.store.pages

  written : EndsWith (abstract_state_of s) (view_of (local_of (all_of s) i)) (clean_pages (map.insert s.images i map.empty) shared.pages.store.pages)
  written = record {
    held = sees_held_alone (local_of (all_of s) i);
    ends = λ q. ap (λ (a : AllRunning). clean_of a q) (ended s.base) ∙ ap (λ (f : ℕ → Option Page). f q) (end_clean (all_of s) i sound.running);
  }

  in_range : IsOpInRange e.ends.op
  in_range = subst IsOpInRange same_op pending.in_range

  answered : IsAnswered (abstract_state_of s) i e.ends.op e.ends.reply (clean_pages (map.insert s.images i map.empty) shared.pages.store.pages)
  answered =
      is_answered (abstract_state_of s) i o (view_of (local_of (all_of s) i)) e.ends.op e.ends.reply (clean_pages (map.insert s.images i map.empty) shared.pages.store.pages)
      sound.match in_range.cell pending.operates e.ends.asked e.ends.ready (agrees_with_each (all_of s) i sound.running is_open_here) written

  free : (j : ℕ) (held : ObjOp × ObjReply) → j ≢ i → Contains ((lists_in (abstract_state_of s)).held j) held → clashes held (e.ends.op, e.ends.reply) ≡ false
  free j held ne here =
      nothing_clashes i j s.shared.objects.held (e.ends.op, e.ends.reply) held
      (subst (λ (t : ℕ). (holder : ℕ) → HoldsClash s.shared.objects.held t (e.ends.op, e.ends.reply) holder → ⊥) own.number e.ends.tells.1.free)
      ne (subst (λ (l : List (ObjOp × ObjReply)). Contains l held) (sym (sound.held j)) here)

  may_do : MayDo (abstract_state_of s) i (e.ends.op, e.ends.reply)
  may_do = record {
    is_open = sound.opened i ∙ ap is_some was;
    forward = ap is_undoing_at was ∙ ap is_undoing e.pending;
    in_range = in_range;
    free = free;
  }

  -- the base that it leads to
  goes : (base : Base) × Step s.base (e.ends.op, e.ends.reply) base × PagesMeanHistory (with_done (abstract_state_of s) i (e.ends.op, e.ends.reply) (clean_pages (map.insert s.images i map.empty) shared.pages.store.pages) base)
  goes =
      let pages = clean_pages (map.insert s.images i map.empty) shared.pages.store.pages in
      let keeps = operation_keeps (abstract_state_of s) i e.ends.op pages sound.match (subst (λ (r : ObjReply). MayDo (abstract_state_of s) i (e.ends.op, r)) (sym answered.told) may_do) answered.changes in
      (keeps.0, subst (λ (r : ObjReply). Step s.base (e.ends.op, r) keeps.0) answered.told keeps.1, subst (λ (r : ObjReply). PagesMeanHistory (with_done (abstract_state_of s) i (e.ends.op, r) pages keeps.0)) answered.told keeps.2)

  new_items : shared.history.items ≡ s.shared.history.items ++ TraceItem.Op i (e.ends.op, e.ends.reply) ∷ []
  new_items = e.ends.tells.1.items ∙ ap (λ (t : ℕ). s.shared.history.items ++ TraceItem.Op t (e.ends.op, e.ends.reply) ∷ []) own.number

  new_entries : entries_of shared.history.items ≡ entries_of s.shared.history.items ++ Did i (e.ends.op, e.ends.reply) ∷ []
  new_entries = ap entries_of new_items ∙ entries_of-append s.shared.history.items (TraceItem.Op i (e.ends.op, e.ends.reply) ∷ [])

  same_undo : is_undoing after.at ≡ is_undoing before.at
  same_undo = ap is_undoing e.idle ∙ sym (ap is_undoing e.pending)

  match : PagesMeanHistory (abstract_state_of (with_end s i after shared goes.0))
  match =
      let pages = clean_pages (map.insert s.images i map.empty) shared.pages.store.pages in
      let undoing : undoing_of s.txs ≡ undoing_of (map.insert s.txs i after) = sym (λ p j. same_undoing s.txs i before after was same_undo j p) in
      subst (λ (h : List (Entry (ObjOp × ObjReply))). PagesMeanHistory (record (abstract_state_of s) { pages = pages; undoing = undoing_of (map.insert s.txs i after); history = h; base = goes.0 })) (sym new_entries)
      (subst (λ (u : ℕ → Bool). PagesMeanHistory (record (with_done (abstract_state_of s) i (e.ends.op, e.ends.reply) pages goes.0) { undoing = u })) undoing goes.2)

  lists_now : lists_in (abstract_state_of (with_end s i after shared goes.0)) ≡ after_entry (lists_in (abstract_state_of s)) (Did i (e.ends.op, e.ends.reply))
  lists_now = ap (λ (h : List (Entry (ObjOp × ObjReply))). lists_of h) new_entries ∙ after_entries-push (entries_of s.shared.history.items) no_lists (Did i (e.ends.op, e.ends.reply))

  runs : KeepsRunning i (all_of s) (all_of (with_end s i after shared goes.0))
  runs = subst (KeepsRunning i (all_of s)) (sym (ended goes.0)) (end_keeps (all_of s) i sound.running is_open_here)

  nothing : HoldsNothing (all_of (with_end s i after shared goes.0)) i
  nothing = subst (λ (a : AllRunning). HoldsNothing a i) (sym (ended goes.0)) (nothing_at_end (all_of s) i)

  longer : length after.undo.entries ≡ length before.undo.entries + 1
  longer = ap length e.ends.tells.1.entries ∙ length-append before.undo.entries ((e.ends.op, e.ends.reply) ∷ [])

  own_fits : Fits (with_end s i after shared goes.0) i after
  own_fits = record {
    number = ap (λ (r : Running). r.tx) e.ends.tells.1.ends.running ∙ own.number;
    stands = e.ends.tells.1.entries ∙ ap (λ l. l ++ (e.ends.op, e.ends.reply) ∷ []) own.stands
        ∙ sym (with_entry-same (lists_in (abstract_state_of s)).transcripts i i ((lists_in (abstract_state_of s)).transcripts i ++ (e.ends.op, e.ends.reply) ∷ []) refl) ∙ ap (λ (l : Lists (ObjOp × ObjReply)). l.transcripts i) (sym lists_now);
    few = omega (arith, longer, pending.fewer);
    where_at = subst (λ (a : At). FitsAt a (with_end s i after shared goes.0) i after) (sym e.idle) nothing;
  }

  other_fits : (j : ℕ) (t : Transaction) → j ≢ i → map.get s.txs j ≡ Some t → Fits (with_end s i after shared goes.0) j t
  other_fits j t ne is =
      let fits = sound.fits j t is in
      record {
        number = fits.number;
        stands = fits.stands ∙ sym (with_entry-other (lists_in (abstract_state_of s)).transcripts i j ((lists_in (abstract_state_of s)).transcripts i ++ (e.ends.op, e.ends.reply) ∷ []) ne) ∙ ap (λ (l : Lists (ObjOp × ObjReply)). l.transcripts j) (sym lists_now);
        few = fits.few;
        where_at = still_fits t.at i j s (with_end s i after shared goes.0) t (record {
          other = ne;
          runs = runs;
          context = refl;
          reserved = subst (SameReservations s.shared.objects.reserved shared.objects.reserved) own.number e.ends.tells.1.reserved;
          max_ops = refl;
        }) fits.where_at;
      }

  held_now : (j : ℕ) → items_of j shared.objects.held ≡ (lists_in (abstract_state_of (with_end s i after shared goes.0))).held j
  held_now j =
      let grown : shared.objects.held ≡ s.shared.objects.held ++ (i, (e.ends.op, e.ends.reply)) ∷ [] = e.ends.tells.1.held ∙ ap (λ (t : ℕ). s.shared.objects.held ++ (t, (e.ends.op, e.ends.reply)) ∷ []) own.number in
      let held = (lists_in (abstract_state_of s)).held in
      let more = held i ++ (e.ends.op, e.ends.reply) ∷ [] in
      ap (λ (h : List Held). items_of j h) grown ∙ (elim (cases_eq j i) [
        | inl here ↦ ap (λ n. items_of n (s.shared.objects.held ++ (i, (e.ends.op, e.ends.reply)) ∷ [])) here ∙ granted_here i s.shared.objects.held (e.ends.op, e.ends.reply)
            ∙ ap (λ l. l ++ (e.ends.op, e.ends.reply) ∷ []) (sound.held i) ∙ sym (with_entry-same held i j more (sym here))
        | inr differ ↦ granted_elsewhere i j s.shared.objects.held (e.ends.op, e.ends.reply) differ ∙ sound.held j ∙ sym (with_entry-other held i j more differ)
      ]) ∙ ap (λ (l : Lists (ObjOp × ObjReply)). l.held j) (sym lists_now)

  -- **Where an operation is done, all that is always true stays true.**
  pub done_sound : (base : Base) × Step s.base (e.ends.op, e.ends.reply) base × IsSound (with_end s i after shared base)
  done_sound =
      let rooms = total_room-insert room_of s.txs i before after was in
      let two : pending_room before.at ≡ 2 = ap pending_room e.pending in
      let zero_now : pending_room after.at ≡ 0 = ap pending_room e.idle in (
        goes.0,
        goes.1,
        record {
          match = match;
          running = runs.may;
          kept = kept_after s i after sound.kept (ap (λ (r : Running). r.images) e.ends.tells.1.ends.running);
          opened = opened_after s i before after was sound.opened;
          fits = fits_after s (with_end s i after shared goes.0) i after refl own_fits other_fits;
          held = held_now;
          begun = subst AreBegunInOrder (sym new_items) (subst (CountsFrom 1) (sym (no_begin s.shared.history.items (TraceItem.Op i (e.ends.op, e.ends.reply)) refl)) sound.begun);
          count = sound.count ∙ sym (ap begin_count new_items ∙ ap length (no_begin s.shared.history.items (TraceItem.Op i (e.ends.op, e.ends.reply)) refl));
          commits = subst AreCounted (sym new_items) (subst (CountsFrom 1) (sym (no_commit s.shared.history.items (TraceItem.Op i (e.ends.op, e.ends.reply)) refl)) sound.commits);
          room = omega (arith, e.ends.tells.1.room, sound.room, rooms, longer, two, zero_now);
        },
      )
