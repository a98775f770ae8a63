-- What an operation on two records leaves of the clean pages, and what it has found there
use Rattle.std.proofs.Common.{◌≡◌, ◌≢◌, ℕ, ◌<◌, ◌≤◌, List, Option, None, Some, is_some, true, refl, sym, ap, subst, ◌∙◌, inl, inr, slice_index_or, unwrap_or}
use Rattle.mlt_tx_two_records.proofs.Names.{cases_eq, false≢true, Page, Slot, Free, BucketFields, ObjReply, RecChange, Request, decision, size_decision, target_of, FilePages, HasForm, depth_of, header_of, lead_of, look_up, Agrees, over, own_or_clean, View, rebased, WriteFields, planned_page, IsHolding, PairFields, found_of, both_there, both_lead, slot_after, WalkContext, Before, IsChanged, Stands, StoodBefore, WalkFields, context_after, one_key, Change, Phase, found_still, TwoRecordWalk, First, Owing, Wide, WideStage, IsTold, ChangesBoth, HasToldFirst, Performs, WritesRecord, HasPutOwn, HasToldBoth, HasToldPresent}
use Rattle.mlt_page.specs.declared.slot.Slot.TheVariants.{Live, Ghost}
use Rattle.mlt_hash_form.{specs.Changes.ChangesRecord, specs.Changes.IsHome, specs.Changes.slot_change, specs.File.GivesPseudokeys, specs.File.Writes, specs.Held.RearrangesSlots, specs.Held.SeenPages, proofs.HeldPages.kept_values, proofs.HeldPages.keeps_more, proofs.SingleChanges.put_changes, proofs.SingleChanges.revive_changes, proofs.SingleChanges.set_value_changes, proofs.SingleChanges.to_ghost_changes}
use Rattle.mlt_hash_access.{specs.Views.seen_with, proofs.Views.writes_over_clean}
use Rattle.mlt_hash_pair.{specs.Descents.page_of, proofs.Readings.read_still}
use Rattle.mlt_hash.{specs.Passes.value_after, specs.Walks.FoundBefore, specs.Walks.IsAtBucket, specs.declared.pass.Change.TheVariants.Put, specs.declared.pass.Change.TheVariants.Revive, specs.declared.pass.Change.TheVariants.Set, specs.declared.pass.Change.TheVariants.Remove, proofs.Passed.read_at_bucket}
use Rattle.mlt_tx_two_records.specs.{FirstPass.ChangesNone, Leaving.LeavesAll, Leaving.LeavesAsTold, Leaving.LeavesBoth, Leaving.LeavesRecord}

-- ---- one slot that is set

-- slots that all stay
all_stay : (context : WalkContext) (seen : SeenPages) (pages : FilePages) → HasForm context.bits pages context.root → RearrangesSlots context.bits context.active seen pages pages context.root
all_stay context seen pages form = record { form = form; lost = λ t used there. inl there; stood = λ m i used. (m, refl, inl refl) }

module _ (context : WalkContext) (key q : ℕ) (bucket : BucketFields) (write : WriteFields) (pages pages' : FilePages) (home : IsHome context.bits pages context.root key q bucket) (within : write.at < 8) (writes : Writes pages pages' q (planned_page bucket write)) where
  abbrev Leaves : Change → Type 0
  Leaves done = ChangesRecord context.bits pages pages' context.root (slot_change key (value_after done) q write.at (slot_after done key context.tx))

  writes_as : (slot : Slot) → write.slot ≡ slot → Writes pages pages' q (planned_page bucket (record write { slot = slot }))
  writes_as slot is = subst (λ slot. Writes pages pages' q (planned_page bucket (record write { slot = slot }))) is writes

  set_changes : (done : Change) → write.slot ≡ slot_after done key context.tx → StoodBefore done context key bucket.slots (slice_index_or bucket.slots write.at Free) → Leaves done
  set_changes (Put value) is was = put_changes context.bits context.active pages pages' context.root key value q write.at bucket home was.0 within was.2 (writes_as (Live key value) is)
  set_changes (Revive value) is was = revive_changes context.bits pages pages' context.root key context.tx value q write.at bucket home was.0 within was.1 (writes_as (Live key value) is)
  set_changes (Set value) is was = set_value_changes context.bits pages pages' context.root key value q write.at bucket home within was (writes_as (Live key value) is)
  set_changes Remove is was = to_ghost_changes context.bits pages pages' context.root key context.tx q write.at bucket home within was (writes_as (Ghost key 0 context.tx) is)

-- **A change that is written in the bucket of its key leaves the record of the key changed.**
pub written_leaves : (context : WalkContext) (key q : ℕ) (done : Change) (old new : View) (clean : FilePages) (seen : SeenPages) → GivesPseudokeys context.bits → Agrees old.seen clean → HasForm context.bits (over clean old.own) context.root
    → lead_of (over clean old.own) context.root (context.bits key) ≡ q → depth_of (over clean old.own) context.root ≤ context.max_depth → WritesRecord context done key q old new
    → LeavesRecord context key done seen (over clean old.own) (over clean new.own)
written_leaves context key q done old new clean seen bounded agree form leads shallow writes =
    let bucket = writes.plan.bucket in
    let there : over clean old.own q ≡ Some (Page.Bucket bucket) = ap (own_or_clean (old.own q)) (agree q writes.plan.reads.0 writes.plan.reads.1) ∙ writes.plan.reads.2 in
    let home : IsHome context.bits (over clean old.own) context.root key q bucket = record { bounded = bounded; form = form; leads = leads; found = there } in
    let not_here : context.root ≢ q = λ same.
    let both : Some (Page.Head (header_of (over clean old.own context.root))) ≡ Some (Page.Bucket bucket) = sym form.head ∙ ap (over clean old.own) same ∙ there in
    cc both
    in
    let head : over clean new.own context.root ≡ over clean old.own context.root = ap (λ own. own_or_clean own (clean context.root)) (writes.writes.others context.root not_here) in
    record {
      rest = over clean old.own;
      keeps = all_stay context seen (over clean old.own) form;
      spot = record { number = q; at = writes.write.at; bucket = bucket };
      home = record { home = home; within = writes.plan.within };
      was = writes.plan.was;
      changes = set_changes context key q bucket writes.write (over clean old.own) (over clean new.own) home writes.plan.within
          (writes_over_clean old new q (planned_page bucket writes.write) clean writes.writes) done writes.plan.slot writes.plan.was;
      shallow = subst (λ (p : Option Page). (header_of p).depth ≤ context.max_depth) (sym head) shallow;
    }

-- ---- a walk that has changed its record

-- what stood in a slot is said by who is open and whose walk it is alone
stood_alike : (done : Change) (before : Before) (context : WalkContext) (key : ℕ) (slots : List Slot) (slot : Slot) → StoodBefore done (context_after before context) key slots slot → StoodBefore done context key slots slot
stood_alike (Put value) before context key slots slot was = was
stood_alike (Revive value) before context key slots slot was = was
stood_alike (Set value) before context key slots slot was = was
stood_alike Remove before context key slots slot was = was

module _ (context : WalkContext) (before : Before) (walk : WalkFields) (view : View) (bucket : ℕ) (done : Change) (clean : FilePages) (more : SeenPages) (changed : IsChanged (context_after before context) walk view bucket done)
    (also : (q : ℕ) (p : Option Page) → view.seen q ≡ Some p → more q ≡ Some p) (agree : Agrees more clean) (form : HasForm context.bits clean context.root) where
  agree_then : Agrees view.seen clean
  agree_then q p sees = agree q p (also q p sees)

  -- **A walk that has changed the record of its key leaves it changed**, whatever it did before, where more is seen by now;
  pub walk_leaves : LeavesRecord context walk.key done more clean (over clean view.own)
  walk_leaves =
      let placed = changed.read.way.placed in
      let head : over clean view.own context.root ≡ Some (Page.Head changed.header) =
      ap (own_or_clean (view.own context.root)) (agree_then context.root (Some (Page.Head placed.header)) placed.head)
      ∙ sym (ap (λ (o : Option (Option Page)). own_or_clean (view.own context.root) (unwrap_or o None)) placed.head) ∙ changed.head
      in
      record {
        rest = over clean changed.rest;
        keeps = keeps_more context.bits context.active context.root view.seen more changed.rest also changed.changes.keeps clean agree form;
        spot = record { number = bucket; at = changed.slot; bucket = changed.fields };
        home = record { home = changed.home clean agree_then form; within = changed.within };
        was = stood_alike done before context walk.key changed.fields.slots (slice_index_or changed.fields.slots changed.slot Free) changed.was;
        changes = changed.changes.changes clean agree_then form;
        shallow = subst (λ (p : Option Page). (header_of p).depth ≤ context.max_depth) (sym head) changed.shallow;
      }

  -- and all other keys have what they had.
  pub others_stay : (key : ℕ) → key ≢ walk.key → look_up context.bits (over clean view.own) context.root key ≡ look_up context.bits clean context.root key
  others_stay key other =
      (changed.changes.changes clean agree_then form).others key other
      ∙ kept_values context.bits context.active context.root view.seen changed.rest changed.changes.keeps clean agree_then form key

-- ---- what an operation on two records leaves

module _ (context : WalkContext) (request : Request) (reply : ObjReply) (view : View) (clean : FilePages) (bounded : GivesPseudokeys context.bits) (agree : Agrees view.seen clean) (form : HasForm context.bits clean context.root) (shallow : depth_of clean context.root ≤ context.max_depth) where
  -- what the clean pages have of a key
  abbrev value_of : ℕ → Option ℕ
  value_of key = look_up context.bits clean context.root key

  -- ---- in a first pass

  module _ (pair : PairFields) (told : HasToldFirst context request pair reply view) where
    both_found : (found_of pair.left_descent ≡ value_of pair.left) × (found_of pair.right_descent ≡ value_of pair.right)
    both_found = both_there context.bits context.root pair view clean told.found told.holding agree

    own_found : found_of pair.left_descent ≡ value_of (target_of request).0
    own_found = both_found.0 ∙ ap value_of told.keys.own_is

    none_left : ChangesNone request pair reply view → LeavesAll context request reply pair.right view clean
    none_left none = record {
      decided = subst (λ f. decision request f ≡ (reply, None)) own_found none.asks.decided;
      resized = subst (λ f. size_decision request reply f ≡ None) both_found.1 none.asks.resized;
      unwritten = none.unwritten;
    }

    -- each key leads to its bucket, whatever is written there
    leads_then : (own : FilePages) → ((q : ℕ) → q ≢ page_of pair.left_descent → q ≢ page_of pair.right_descent → own q ≡ None)
        → (lead_of (over clean own) context.root (context.bits pair.left) ≡ page_of pair.left_descent) × (lead_of (over clean own) context.root (context.bits pair.right) ≡ page_of pair.right_descent)
    leads_then own alone =
        let now : View = record view { own = own } in
        let holding : IsHolding context.bits context.root pair now = record {
          left = read_still context.bits context.root pair.left view now pair.left_descent (λ q first sees. sees) told.holding.left;
          right = read_still context.bits context.root pair.right view now pair.right_descent (λ q first sees. sees) told.holding.right;
          holds = told.holding.holds;
          few = told.holding.few;
        } in
        both_lead context.bits context.root pair now clean told.found holding agree alone

    both_left : ChangesBoth context request pair reply view → LeavesBoth context request reply pair.right view clean
    both_left both = record {
      change = both.asks.change;
      decided = subst (λ f. decision request f ≡ (reply, Some both.asks.change)) own_found both.asks.decided;
      resize = both.asks.resize;
      resized = subst (λ f. size_decision request reply f ≡ Some both.asks.resize) both_found.1 both.asks.resized;
      own_done = both.own_done;
      own_performs = subst (λ f. Performs both.asks.change f both.own_done) own_found both.own_performs;
      size_done = both.size_done;
      size_performs = subst (λ f. Performs both.asks.resize f both.size_done) both_found.1 both.size_performs;
      written = both.mid.own;
      held = λ q unseen. elim (cases_eq q (page_of pair.left_descent)) [
        | inl here ↦
            let sees = sym (seen_then q) ∙ ap both.old.seen here ∙ both.own.plan.reads.1 in
            absurd (let two : None ≡ Some both.own.plan.reads.0 = sym unseen ∙ sees in cc two)
        | inr differs ↦ mid_alone q differs
      ];
      own = subst (λ k. LeavesRecord context k both.own_done view.seen clean (over clean both.mid.own)) told.keys.own_is own_left;
      between = view.seen;
      size = size_left;
    }
      where
        -- what was seen when both were found is seen still
        seen_then : (q : ℕ) → both.old.seen q ≡ view.seen q
        seen_then q = sym (both.size.writes.seen q ∙ both.own.writes.seen q)

        mid_alone : (q : ℕ) → q ≢ page_of pair.left_descent → both.mid.own q ≡ None
        mid_alone q differs = both.own.writes.others q differs ∙ both.unwritten q

        unwritten : over clean both.old.own ≡ clean
        unwritten i q = ap (λ own. own_or_clean own (clean q)) (both.unwritten q) i

        own_left : LeavesRecord context pair.left both.own_done view.seen clean (over clean both.mid.own)
        own_left =
            subst (λ (pages : FilePages). LeavesRecord context pair.left both.own_done view.seen pages (over clean both.mid.own)) unwritten
            (written_leaves context pair.left (page_of pair.left_descent) both.own_done both.old both.mid clean view.seen bounded
            (λ q first sees. agree q first (sym (seen_then q) ∙ sees)) (subst (λ (pages : FilePages). HasForm context.bits pages context.root) (sym unwritten) form)
            (leads_then both.old.own (λ q differs also. both.unwritten q)).0 (subst (λ (pages : FilePages). depth_of pages context.root ≤ context.max_depth) (sym unwritten) shallow) both.own)

        size_left : LeavesRecord context pair.right both.size_done view.seen (over clean both.mid.own) (over clean view.own)
        size_left =
            written_leaves context pair.right (page_of pair.right_descent) both.size_done both.mid view clean view.seen bounded
            (λ q first sees. agree q first (both.size.writes.seen q ∙ sees)) own_left.changes.form
            (leads_then both.mid.own (λ q differs also. mid_alone q differs)).1 own_left.shallow both.size

    pub first_leaves : LeavesAsTold context request reply view clean
    first_leaves = (pair.right, told.keys.size_is, elim told.done [ inl none ↦ inl (none_left none) | inr both ↦ inr (both_left both) ])

  -- ---- in a wide one

  pub present_leaves : (walk : WalkFields) → HasToldPresent context request walk reply view → LeavesAsTold context request reply view clean
  present_leaves walk told =
      let here : IsAtBucket (one_key context) walk view told.bucket told.depth (Some told.value) = subst (λ (p : Phase). Stands p (one_key context) walk view) told.at_bucket told.stands in
      let found : Some told.value ≡ value_of walk.key = found_still (one_key context) walk.key view (Some told.value) clean (read_at_bucket (one_key context) walk view told.bucket told.depth (Some told.value) here) agree in (
        told.size,
        told.keys.size_is,
        inl (record {
          decided = subst (λ f. decision request f ≡ (reply, None)) (found ∙ ap value_of told.keys.own_is) told.decided;
          resized = told.resized (value_of told.size);
          unwritten = here.unwritten.own;
        }),
      )

  -- where a record is added none was found
  none_found : (value : ℕ) (done : Change) (found : Option ℕ) → Performs (RecChange.Add value) None done → FoundBefore done found → found ≡ None
  none_found value done found (inl put) fits = subst (λ d. FoundBefore d found) put fits
  none_found value done found (inr revived) fits = subst (λ d. FoundBefore d found) revived fits

  module _ (walk : WalkFields) (told : HasToldBoth context request walk reply view) where
    abbrev put : HasPutOwn context request view told.since
    put = told.put

    abbrev own : FilePages
    own = put.then_view.own

    since_own : told.since.written ≡ own
    since_own = ap (λ (b : Before). b.written) put.since_is

    -- what was written then is written, and on pages that are held
    kept_written : (q : ℕ) (page : Page) → own q ≡ Some page → (is_some (view.seen q) ≡ true) × (is_some (view.own q) ≡ true)
    kept_written q page is = put.written q (ap (λ (written : FilePages). is_some (written q)) since_own ∙ ap is_some is)

    held_then : (q : ℕ) → view.seen q ≡ None → own q ≡ None
    held_then q unseen = by_own (own q) refl
      where
        by_own : (o : Option Page) → own q ≡ o → own q ≡ None
        by_own None is = is
        by_own (Some page) is = absurd (false≢true (sym (ap is_some unseen) ∙ (kept_written q page is).0))

    -- the own record,
    abbrev own_key : ℕ
    own_key = put.walk.key

    agree_put : Agrees put.then_view.seen clean
    agree_put q p sees = agree q p (put.seen q p sees)

    put_left : LeavesRecord context own_key put.done view.seen clean (over clean own)
    put_left = walk_leaves context (one_key context).before put.walk put.then_view put.bucket put.done clean view.seen put.changed put.seen agree form

    none_there : None ≡ value_of own_key
    none_there =
        sym (none_found put.value put.done put.changed.found put.performs put.changed.fits)
        ∙ found_still (one_key context) own_key put.then_view put.changed.found clean put.changed.read agree_put

    -- and the size's over it
    agree_over : Agrees (rebased told.since.written view).seen (over clean own)
    agree_over q p sees = by_own (told.since.written q) refl
      where
        by_own : (o : Option Page) → told.since.written q ≡ o → over clean own q ≡ p
        by_own None is =
            ap (λ (o : Option Page). own_or_clean o (clean q)) (sym (ap (λ (written : FilePages). written q) since_own) ∙ is)
            ∙ agree q p (sym (ap (λ o. seen_with o (view.seen q)) is) ∙ sees)
        by_own (Some page) is =
            let two : Some (Some page) ≡ Some p = sym (ap (λ o. seen_with o (view.seen q)) is) ∙ sees in
            ap (λ (o : Option Page). own_or_clean o (clean q)) (sym (ap (λ (written : FilePages). written q) since_own) ∙ is) ∙ cc

    both_over : over (over clean own) view.own ≡ over clean view.own
    both_over i q = by_own (view.own q) refl i
      where
        by_own : (o : Option Page) → view.own q ≡ o → own_or_clean (view.own q) (over clean own q) ≡ own_or_clean (view.own q) (clean q)
        by_own (Some page) is = ap (λ (o : Option Page). own_or_clean o (over clean own q)) is ∙ sym (ap (λ (o : Option Page). own_or_clean o (clean q)) is)
        by_own None is = ap (own_or_clean (view.own q)) (ap (λ (o : Option Page). own_or_clean o (clean q)) (never (own q) refl))
          where
            never : (o : Option Page) → own q ≡ o → own q ≡ None
            never None none = none
            never (Some page) wrote = absurd (false≢true (sym (ap is_some is) ∙ (kept_written q page wrote).1))

    size_changed : IsChanged (context_after told.since context) walk (rebased told.since.written view) told.bucket told.done
    size_changed = subst (λ (p : Phase). Stands p (context_after told.since context) walk (rebased told.since.written view)) told.phase told.stands

    size_left : LeavesRecord context walk.key told.done (rebased told.since.written view).seen (over clean own) (over clean view.own)
    size_left =
        subst (λ (pages : FilePages). LeavesRecord context walk.key told.done (rebased told.since.written view).seen (over clean own) pages) both_over
        (walk_leaves context told.since walk (rebased told.since.written view) told.bucket told.done (over clean own) (rebased told.since.written view).seen size_changed (λ q p sees. sees) agree_over put_left.changes.form)

    size_found : told.found ≡ value_of walk.key
    size_found =
        found_still (context_after told.since context) walk.key (rebased told.since.written view) told.found (over clean own) told.read agree_over
        ∙ others_stay context (one_key context).before put.walk put.then_view put.bucket put.done clean view.seen put.changed put.seen agree form walk.key
        (λ same. told.keys.apart (sym (put.to_key.key_is) ∙ sym same))

    pub both_leave : LeavesAsTold context request reply view clean
    both_leave =
        let key_is = put.to_key.key_is in (
          walk.key,
          told.keys.size_is,
          inr (record {
            change = RecChange.Add put.value;
            decided = subst (λ f. decision request f ≡ (reply, Some (RecChange.Add put.value))) (none_there ∙ ap value_of key_is) (put.decided ∙ ap (λ r. (r, Some (RecChange.Add put.value))) (sym told.reply_is));
            resize = told.resize;
            resized = subst (λ f. size_decision request reply f ≡ Some told.resize) size_found told.resized;
            own_done = put.done;
            own_performs = subst (λ f. Performs (RecChange.Add put.value) f put.done) (none_there ∙ ap value_of key_is) put.performs;
            size_done = told.done;
            size_performs = subst (λ f. Performs told.resize f told.done) size_found told.performs;
            written = own;
            held = held_then;
            own = subst (λ k. LeavesRecord context k put.done view.seen clean (over clean own)) key_is put_left;
            between = (rebased told.since.written view).seen;
            size = size_left;
          }),
        )

  -- **What an operation on two records is told goes with what the clean pages have of both keys, and its changes are left there.**
  pub leaves_as_told : (two_records : TwoRecordWalk) → IsTold two_records context request reply view → LeavesAsTold context request reply view clean
  leaves_as_told (First pair) told = first_leaves pair told
  leaves_as_told (Owing pair was) told = first_leaves pair told
  leaves_as_told (Wide WideStage.Own walk) told = present_leaves walk told
  leaves_as_told (Wide WideStage.Size walk) told = both_leave walk told
