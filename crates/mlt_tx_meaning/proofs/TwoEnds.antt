-- An operation on two records that ends leaves both its changes, one after the other, or none; and what it is to change is
-- there.
use Rattle.std.proofs.Common.{◌≡◌, ℕ, [], ◌∷◌, None, Option, Some, is_some, refl, sym, subst, ap, ◌∙◌, inl, inr, arith, ◌⊎◌, nat_cmp}
use Rattle.std.specs.FinMap as map
use Rattle.mlt_tx_meaning.proofs.Names.{IsInRange, key_number, Cell, Page, ElementOp, ObjOp, Account, Element, Counter, Size, ObjReply, cell_of, RecordChanges, RecChange, TakeBack, changes_on, inverse_of, reply_of, size_change_of, changes_back, changes_of, record_in, told_by, CanChange, CanResize, record_beside, FilePages, look_up, over, own_or_clean, live_records, View, Change, Presence, rearranged_moved, Performs, ChangesPages, KeepsPages, LeavesChange, MayUndo, PagesMeanHistory, AbstractState, context_of, record_at, record_of, size_record_of}
use Rattle.mlt_object_base.{specs.declared.request.Request.Request, specs.declared.request.Request.TheVariants.Do, specs.Requests.decision, specs.Requests.size_decision, specs.Requests.size_key_of, specs.Requests.target_of, proofs.SizeRecords.can_resize, proofs.SizeRecords.size_change_fits}
use Rattle.mlt_hash_form.specs.Held.{SeenPages}
use Rattle.mlt_hash_access.{specs.LocalStates.LocalState, specs.Views.view_of, proofs.Views.seen_free}
use Rattle.mlt_tx_two_records.specs.{TwoRecordWalks.CanDoBoth, Leaving.LeavesAll, Leaving.LeavesAsTold, Leaving.LeavesBoth, Leaving.LeavesRecord}
use Rattle.mlt_tx_meaning.{specs.Ends.EndsWith, specs.Ends.SeesHeldAlone, proofs.RecordChanges.records_become, proofs.Replies.by_reply, proofs.Replies.reply_steps, proofs.Undoing.inverse_can, proofs.Undoing.undone_can_resize, proofs.Walks.ghost_there, proofs.Walks.record_looked_up, proofs.WrittenPages.written_over}

-- ---- what is left

-- what is left of the record of a key is left of that of its cell
record_leaves : (state : AbstractState) (tx : ℕ) (c : Cell) (change : RecChange) (done : Change) (seen : SeenPages) (pages : map.FinMap nat_cmp Page) → LeavesRecord (context_of state tx) (key_number c) done seen (map.get state.pages) (map.get pages)
    → Performs change (record_at state c) done → LeavesChange state tx c change pages
record_leaves state tx c change done seen pages leaves performs = record {
  rest = leaves.rest;
  moves = rearranged_moved state.bits state.active seen (map.get state.pages) leaves.rest state.root leaves.keeps;
  spot = leaves.spot;
  home = leaves.home;
  done = done;
  performs = performs;
  was = leaves.was;
  changes = leaves.changes;
  shallow = leaves.shallow;
}

-- of a state's view a page that is not held is not seen
pub sees_held_alone : (m : LocalState) → SeesHeldAlone (view_of m)
sees_held_alone m q none = seen_free m q (ap is_some none)

module _ (state : AbstractState) (tx : ℕ) (request : Request) (reply : ObjReply) (view : View) (pages : map.FinMap nat_cmp Page) (h : PagesMeanHistory state)
    (ends : EndsWith state view pages) where
  abbrev clean : FilePages
  clean = map.get state.pages

  none_changed : (size_key : ℕ) → LeavesAll (context_of state tx) request reply size_key view clean → KeepsPages state pages
  none_changed size_key all q = ends.ends q ∙ ap (λ own. own_or_clean own (clean q)) (all.unwritten q)

  both_changed : (s e : ℕ) → IsInRange (Cell.Element s e) → (target_of request).0 ≡ key_number (Cell.Element s e) → (both : LeavesBoth (context_of state tx) request reply (key_number (Cell.Size s)) view clean)
      → ChangesPages state tx ((Cell.Element s e, both.change) ∷ (Cell.Size s, both.resize) ∷ []) pages
  both_changed s e range key_is both =
      let context = context_of state tx in
      let own = Cell.Element s e in
      let size = Cell.Size s in
      let between = written_over state.pages both.written view.modes (λ q none. both.held q (ends.held q none)) in
      let there : over clean both.written ≡ map.get between.0 = λ i q. sym (between.1 q) i in
      let then : AbstractState = record state { pages = between.0 } in
      let found : look_up state.bits clean state.root (target_of request).0 ≡ record_at state own = ap (look_up state.bits clean state.root) key_is ∙ sym (record_looked_up state own h) in
      let first : LeavesChange state tx own both.change between.0 =
      record_leaves state tx own both.change both.own_done view.seen between.0
      (subst (λ (after : FilePages). LeavesRecord context (key_number own) both.own_done view.seen clean after) there (subst (λ k. LeavesRecord context k both.own_done view.seen clean (over clean both.written)) key_is both.own))
      (subst (λ f. Performs both.change f both.own_done) found both.own_performs)
      in
      let records = records_become state tx ((own, both.change) ∷ []) between.0 h.file.bounded h.file.form first in
      let still : record_at then size ≡ record_at state size =
      ap (λ (r : map.FinMap nat_cmp ℕ). record_in r size) records ∙ record_beside (live_records state.pages) own size _ range range.0 (λ (same : size ≡ own). cc)
      in
      let next : LeavesChange then tx size both.resize pages =
      record_leaves then tx size both.resize both.size_done both.between pages
      (subst (λ (after : FilePages). LeavesRecord context (key_number size) both.size_done both.between (map.get between.0) after) (λ i q. sym (ends.ends q) i)
      (subst (λ (before : FilePages). LeavesRecord context (key_number size) both.size_done both.between before (over clean view.own)) there both.size))
      (subst (λ f. Performs both.resize f both.size_done) (sym (record_looked_up state size h) ∙ sym still) both.size_performs)
      in
      (between.0, first, next)

  -- what was asked for, by what is left
  abbrev asked_for : (size_key : ℕ) → LeavesAll (context_of state tx) request reply size_key view clean ⊎ LeavesBoth (context_of state tx) request reply size_key view clean → RecordChanges
  asked_for size_key (inl all) = record { own = None; size = None }
  asked_for size_key (inr both) = record { own = Some both.change; size = Some both.resize }

  changed_as : (s e : ℕ) (o : ElementOp) (changes : RecordChanges) (size_key : ℕ) → IsInRange (Cell.Element s e) → (target_of request).0 ≡ key_number (Cell.Element s e) → size_key ≡ key_number (Cell.Size s)
      → (leaves : LeavesAll (context_of state tx) request reply size_key view clean ⊎ LeavesBoth (context_of state tx) request reply size_key view clean) → changes ≡ asked_for size_key leaves
      → ChangesPages state tx (changes_on (Element s e o) changes) pages
  changed_as s e o changes size_key range key_is size_is (inl all) is =
      subst (λ (c : RecordChanges). ChangesPages state tx (changes_on (Element s e o) c) pages) (sym is) (none_changed size_key all)
  changed_as s e o changes size_key range key_is size_is (inr both) is =
      subst (λ (c : RecordChanges). ChangesPages state tx (changes_on (Element s e o) c) pages) (sym is)
      (both_changed s e range key_is (subst (λ k. LeavesBoth (context_of state tx) request reply k view clean) size_is both))

-- ---- by what is asked

module _ (state : AbstractState) (tx : ℕ) (reply : ObjReply) (view : View) (pages : map.FinMap nat_cmp Page) (h : PagesMeanHistory state)
    (ends : EndsWith state view pages) where
  abbrev records : map.FinMap nat_cmp ℕ
  records = live_records state.pages

  -- what is told and changed by what the clean pages have is told and changed by the records
  told_changes : (s e : ℕ) (o : ElementOp) (size_key : ℕ) (own size : Option RecChange) → size_key ≡ key_number (Cell.Size s)
      → reply_of (Element s e o) (look_up state.bits (map.get state.pages) state.root (key_number (Cell.Element s e))) ≡ (reply, own)
      → size_change_of (Element s e o, reply) (look_up state.bits (map.get state.pages) state.root size_key) ≡ size
      → (told_by records (Element s e o) ≡ reply) × (changes_of records (Element s e o) ≡ record { own = own; size = size })
  told_changes s e o size_key own size size_is decided resized =
      let op = Element s e o in
      let is : reply_of op (record_of state op) ≡ (reply, own) = ap (reply_of op) (record_looked_up state (Cell.Element s e) h) ∙ decided in
      let told : told_by records op ≡ reply = ap (λ (d : ObjReply × Option RecChange). d.0) is in
      let found : size_record_of state op ≡ look_up state.bits (map.get state.pages) state.root size_key = record_looked_up state (Cell.Size s) h ∙ ap (look_up state.bits (map.get state.pages) state.root) (sym size_is) in
      let size_now : size_change_of (op, told_by records op) (size_record_of state op) ≡ size =
      ap (λ r. size_change_of (op, r) (size_record_of state op)) told ∙ ap (size_change_of (op, reply)) found ∙ resized
      in
      (told, λ i. record { own = (is i).1; size = size_now i })

  abbrev IsDone : ObjOp → Type 0
  IsDone op = (told_by records op ≡ reply) × ChangesPages state tx (changes_on op (changes_of records op)) pages

  element_done : (s e : ℕ) (o : ElementOp) (size_key : ℕ) → IsInRange (Cell.Element s e) → size_key ≡ key_number (Cell.Size s)
      → LeavesAll (context_of state tx) (Do (Element s e o)) reply size_key view (map.get state.pages) ⊎ LeavesBoth (context_of state tx) (Do (Element s e o)) reply size_key view (map.get state.pages)
      → IsDone (Element s e o)
  element_done s e o size_key range size_is (inl all) =
      let is = told_changes s e o size_key None None size_is all.decided all.resized in
      (is.0, changed_as state tx (Do (Element s e o)) reply view pages h ends s e o _ size_key range refl size_is (inl all) is.1)
  element_done s e o size_key range size_is (inr both) =
      let is = told_changes s e o size_key (Some both.change) (Some both.resize) size_is both.decided both.resized in
      (is.0, changed_as state tx (Do (Element s e o)) reply view pages h ends s e o _ size_key range refl size_is (inr both) is.1)

  -- **An operation on two records is told what the records ask for, and leaves the changes that go with that.**
  pub done_leaves : (op : ObjOp) → IsInRange (cell_of op) → LeavesAsTold (context_of state tx) (Do op) reply view (map.get state.pages) → IsDone op
  done_leaves (Element s e ElementOp.Add) range leaves = element_done s e ElementOp.Add leaves.0 range (let is = leaves.1 in cc) leaves.2
  done_leaves (Element s e ElementOp.Remove) range leaves = element_done s e ElementOp.Remove leaves.0 range (let is = leaves.1 in cc) leaves.2
  done_leaves (Element s e ElementOp.Has) range leaves = absurd (let is = leaves.1 in cc)
  done_leaves (Account a o) range leaves = absurd (let is = leaves.1 in cc)
  done_leaves (Counter c o) range leaves = absurd (let is = leaves.1 in cc)
  done_leaves (Size s) range leaves = absurd (let is = leaves.1 in cc)

  abbrev IsUndone : ObjOp × ObjReply → Type 0
  IsUndone item = ChangesPages state tx (changes_on item.0 (changes_back item)) pages

  element_undone : (s e : ℕ) (o : ElementOp) (was : ObjReply) (size_key : ℕ) → IsInRange (Cell.Element s e) → size_key ≡ key_number (Cell.Size s)
      → LeavesAll (context_of state tx) (TakeBack (Element s e o, was)) reply size_key view (map.get state.pages) ⊎ LeavesBoth (context_of state tx) (TakeBack (Element s e o, was)) reply size_key view (map.get state.pages)
      → IsUndone (Element s e o, was)
  element_undone s e o was size_key range size_is (inl all) =
      let own = ap (λ (d : ObjReply × Option RecChange). d.1) all.decided in
      changed_as state tx (TakeBack (Element s e o, was)) reply view pages h ends s e o _ size_key range refl size_is (inl all) (λ i. record { own = own i; size = all.resized i })
  element_undone s e o was size_key range size_is (inr both) =
      let own = ap (λ (d : ObjReply × Option RecChange). d.1) both.decided in
      changed_as state tx (TakeBack (Element s e o, was)) reply view pages h ends s e o _ size_key range refl size_is (inr both) (λ i. record { own = own i; size = both.resized i })

  -- **So does the inverse of one.**
  pub undone_leaves : (item : ObjOp × ObjReply) → IsInRange (cell_of item.0) → LeavesAsTold (context_of state tx) (TakeBack item) reply view (map.get state.pages) → IsUndone item
  undone_leaves (Element s e ElementOp.Add, ObjReply.Added) range leaves = element_undone s e ElementOp.Add ObjReply.Added leaves.0 range (let is = leaves.1 in cc) leaves.2
  undone_leaves (Element s e ElementOp.Remove, ObjReply.Removed) range leaves = element_undone s e ElementOp.Remove ObjReply.Removed leaves.0 range (let is = leaves.1 in cc) leaves.2
  undone_leaves _ range leaves = absurd (let is = leaves.1 in cc)

-- ---- what is changed is there

revives_nothing : (op : ObjOp) (live : Option ℕ) → (reply_of op live).1 ≡ Some RecChange.Revive → ⊥
revives_nothing op live =
    let Never : Option Presence → Option RecChange → Type 0 = λ p c. c ≡ Some RecChange.Revive → ⊥ in
    by_reply op live Never (record {
      added = λ v e. cc e;
      removed = λ e. cc e;
      updated = λ v e. cc e;
      counted = λ on v e. cc e;
      stays = λ e. cc e;
    })

module _ (state : AbstractState) (tx : ℕ) (h : PagesMeanHistory state) where
  -- a size record that can be changed as is asked is on the clean pages
  size_fits : (request : Request) (reply : ObjReply) (s key : ℕ) → key ≡ key_number (Cell.Size s) → CanResize request reply (record_at state (Cell.Size s))
      → CanChange (size_decision request reply (look_up state.bits (map.get state.pages) state.root key)) (look_up state.bits (map.get state.pages) state.root key)
  size_fits request reply s key key_is can =
      let found : record_at state (Cell.Size s) ≡ look_up state.bits (map.get state.pages) state.root key = record_looked_up state (Cell.Size s) h ∙ ap (look_up state.bits (map.get state.pages) state.root) (sym key_is) in
      subst (λ f. CanChange (size_decision request reply f) f) found (size_change_fits request reply (record_at state (Cell.Size s)) can)

  abbrev SizeFits : Request → Type 0
  SizeFits request = (key : ℕ) → size_key_of request ≡ Some key
      → CanChange (size_decision request (decision request (look_up state.bits (map.get state.pages) state.root (target_of request).0)).0 (look_up state.bits (map.get state.pages) state.root key))
      (look_up state.bits (map.get state.pages) state.root key)

  element_fits : (s e : ℕ) (o : ElementOp) (key : ℕ) → IsInRange (Cell.Element s e) → key ≡ key_number (Cell.Size s)
      → CanChange (size_change_of (Element s e o, (reply_of (Element s e o) (look_up state.bits (map.get state.pages) state.root (key_number (Cell.Element s e)))).0) (look_up state.bits (map.get state.pages) state.root key))
      (look_up state.bits (map.get state.pages) state.root key)
  element_fits s e o key range key_is =
      let op = Element s e o in
      let cell_steps = reply_steps op (record_of state op) (h.records.means.can_be (cell_of op) range) (omega arith) in
      let can = can_resize (live_records state.pages) state.base op h.records.means range cell_steps.1 cell_steps.0 in
      let told = ap (λ f. (reply_of op f).0) (record_looked_up state (Cell.Element s e) h) in
      size_fits (Do op) _ s key key_is (subst (λ r. CanResize (Do op) r (size_record_of state op)) told can)

  done_size_fits : (op : ObjOp) → IsInRange (cell_of op) → SizeFits (Do op)
  done_size_fits (Element s e ElementOp.Add) range key is = element_fits s e ElementOp.Add key range (cc is)
  done_size_fits (Element s e ElementOp.Remove) range key is = element_fits s e ElementOp.Remove key range (cc is)
  done_size_fits (Element s e ElementOp.Has) range key is = absurd (cc is)
  done_size_fits (Account a o) range key is = absurd (cc is)
  done_size_fits (Counter c o) range key is = absurd (cc is)
  done_size_fits (Size s) range key is = absurd (cc is)

  -- **What an operation on two records is to change is there,**
  pub can_do_both : (op : ObjOp) → IsInRange (cell_of op) → CanDoBoth (context_of state tx) (map.get state.pages) (Do op)
  can_do_both op range = record {
    own = tt;
    size = done_size_fits op range;
    ghost = λ revives. absurd (revives_nothing op None revives);
  }

  undone_size_fits : (item : ObjOp × ObjReply) → MayUndo state tx item → SizeFits (TakeBack item)
  undone_size_fits (Element s e ElementOp.Add, ObjReply.Added) may key is = size_fits (TakeBack (Element s e ElementOp.Add, ObjReply.Added)) ObjReply.Added s key (cc is) (undone_can_resize state tx (Element s e ElementOp.Add, ObjReply.Added) h may ObjReply.Added)
  undone_size_fits (Element s e ElementOp.Remove, ObjReply.Removed) may key is = size_fits (TakeBack (Element s e ElementOp.Remove, ObjReply.Removed)) ObjReply.Removed s key (cc is) (undone_can_resize state tx (Element s e ElementOp.Remove, ObjReply.Removed) h may ObjReply.Removed)
  undone_size_fits _ may key is = absurd (cc is)

  -- **and what the inverse of one is to change.**
  pub can_take_back_both : (item : ObjOp × ObjReply) → MayUndo state tx item → CanDoBoth (context_of state tx) (map.get state.pages) (TakeBack item)
  can_take_back_both item may = record {
    own = subst (CanChange (inverse_of item)) (record_looked_up state (cell_of item.0) h) (inverse_can state tx item h may);
    size = undone_size_fits item may;
    ghost = ghost_there state tx item h may;
  }
