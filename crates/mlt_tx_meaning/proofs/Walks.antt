-- Walks on pages that match a history: what they find, and where they stand when others begin and end.
use Rattle.std.proofs.Common.{◌≡◌, ℕ, ◌+◌, true, List, Option, Some, refl, sym, subst, ap, ◌∙◌, arith, position, slice_index_or}
use Rattle.std.specs.FinMap as map
use Rattle.std.specs.FinSet as set
use Rattle.mlt_tx_meaning.proofs.Names.{false≢true, key_number, Cell, is_kept, Page, Free, Live, Ghost, ObjOp, ObjReply, cell_of, RecChange, inverse_of, CanChange, bucket_of, buckets_of, lead_of, look_up, slot_at, Agrees, View, WalkFields, last_by, Presence, Removed, last_of, op_key, presence_of, presences_on, MayUndo, PagesMeanHistory, AbstractState, context_of, ledger_of, record_at}
use Rattle.mlt_page.specs.{Slots.is_ghost_of, Values.BucketFields, declared.slot.Slot.Slot}
use Rattle.mlt_hash_form.proofs.{InPages.led_at, MapChanges.map_is_look_up}
use Rattle.mlt_hash_split.specs.Rests.{KeepsNoMore}
use Rattle.mlt_hash.{specs.Changes.HasOwnGhost, specs.Changes.page_of, specs.Walks.HasRead, specs.Walks.IsAtBucket, specs.Walks.IsStanding, specs.Walks.Stands, specs.declared.pass.Phase.Phase, proofs.Laws.path_taken, proofs.Owners.stands_still, proofs.Passed.read_at_bucket, proofs.Standings.found_still}
use Rattle.mlt_hash_ghosts.proofs.GhostLookup.{undone_found}
use Rattle.mlt_tx_meaning.proofs.{Inverses.by_inverse, OpenNumbers.inserted_beside, OpenNumbers.removed_was, Transcripts.last_is, Undoing.inverse_can}

-- ---- what is found

pub record_looked_up : (state : AbstractState) (cell : Cell) → PagesMeanHistory state → record_at state cell ≡ look_up state.bits (map.get state.pages) state.root (key_number cell)
record_looked_up state cell h = map_is_look_up state.bits state.pages state.root h.file.bounded h.file.form (key_number cell)

pub found_is_record : (state : AbstractState) (tx : ℕ) (cell : Cell) (key : ℕ) (view : View) (found : Option ℕ) → PagesMeanHistory state → HasRead (context_of state tx) key view found → key ≡ key_number cell → Agrees view.seen (map.get state.pages)
    → found ≡ record_at state cell
found_is_record state tx cell key view found h read key_is agree =
    found_still (context_of state tx) key view found (map.get state.pages) read agree
    ∙ ap (look_up state.bits (map.get state.pages) state.root) key_is ∙ sym (record_looked_up state cell h)

-- ---- what is taken back

-- what is undone by reviving a ghost was a removal
revives_removal : (item : ObjOp × ObjReply) → inverse_of item ≡ Some RecChange.Revive → presence_of item ≡ Some Removed
revives_removal item =
    let Follows : Option Presence → Option RecChange → Type 0 = λ p c. c ≡ Some RecChange.Revive → p ≡ Some Removed in
    by_inverse item Follows (record {
      added = λ e. absurd (cc e);
      removed = λ e. refl;
      lowered = λ n e. absurd (cc e);
      raised = λ n e. absurd (cc e);
      stays = λ e. absurd (cc e);
    })

-- the ghost of a removal that is to be taken back is in the bucket of its key
pub ghost_there : (state : AbstractState) (tx : ℕ) (item : ObjOp × ObjReply) → PagesMeanHistory state → MayUndo state tx item → inverse_of item ≡ Some RecChange.Revive
    → (i : ℕ) × (position (is_ghost_of (op_key item.0) tx) (buckets_of (map.get state.pages) (lead_of (map.get state.pages) state.root (state.bits (op_key item.0)))).slots ≡ Some i)
ghost_there state tx item h may revives =
    let stood : last_by (ledger_of state) tx (op_key item.0) ≡ Some Removed =
    ap (λ (t : List (ObjOp × ObjReply)). last_of (presences_on (op_key item.0) t)) may.last ∙ last_is may.rest item Removed (revives_removal item revives)
    in
    ((undone_found (ledger_of state) tx (op_key item.0) h.file.ghosts h.file.form may.is_open).1 stood).0

module _ (state : AbstractState) (tx : ℕ) (item : ObjOp × ObjReply) (walk : WalkFields) (view : View) (bucket depth : ℕ) (found : Option ℕ)
    (h : PagesMeanHistory state) (may : MayUndo state tx item) (phase : walk.phase ≡ Phase.AtBucket bucket depth found) (key_is : walk.key ≡ op_key item.0) (stands : IsStanding (context_of state tx) walk view) (agree : Agrees view.seen (map.get state.pages)) where
  here : IsAtBucket (context_of state tx) walk view bucket depth found
  here = subst (λ (p : Phase). Stands p (context_of state tx) walk view) phase stands

  undo_can : CanChange (inverse_of item) found
  undo_can =
      let is = found_is_record state tx (cell_of item.0) walk.key view found h (read_at_bucket (context_of state tx) walk view bucket depth found here) key_is agree in
      subst (CanChange (inverse_of item)) (sym is) (inverse_can state tx item h may)

  own_ghost : inverse_of item ≡ Some RecChange.Revive → HasOwnGhost tx walk view
  own_ghost revives =
      let pages = map.get state.pages in
      let Ghost : ℕ → Type 0 = λ key. (i : ℕ) × (position (is_ghost_of key tx) (buckets_of pages (lead_of pages state.root (state.bits key))).slots ≡ Some i) in
      let ghost = subst Ghost (sym key_is) (ghost_there state tx item h may revives) in
      let led = led_at pages state.root (state.bits walk.key) here.header here.dir bucket here.fields (path_taken (context_of state tx) walk view bucket depth found pages here agree) in
      let slots : (buckets_of pages (lead_of pages state.root (state.bits walk.key))).slots ≡ here.fields.slots =
      ap (λ (n : ℕ). (buckets_of pages n).slots) led.0 ∙ ap (λ (b : BucketFields). b.slots) led.1
      in
      (here.fields, ghost.0, record { at = ap (λ (p : Phase). view.seen (page_of p)) phase ∙ here.at }, ap (position (is_ghost_of walk.key tx)) (sym slots) ∙ ghost.1)

  pub undone_is_there : CanChange (inverse_of item) found × (inverse_of item ≡ Some RecChange.Revive → HasOwnGhost tx walk view)
  undone_is_there = (undo_can, own_ghost)

-- ---- others begin and end

module _ (state : AbstractState) (view : View) (h : PagesMeanHistory state) (agree : Agrees view.seen (map.get state.pages)) where
  -- the next number left no ghost
  kept_without_new : (n i : ℕ) (slot : Slot) → slot_at (buckets_of (map.get state.pages)) n i ≡ slot → is_kept (set.insert state.active (state.begun + 1)) slot ≡ true → is_kept state.active slot ≡ true
  kept_without_new n i Free is kept = absurd (false≢true kept)
  kept_without_new n i (Live key value) is kept = refl
  kept_without_new n i (Ghost key value owner) is kept =
      let low = h.file.ghosts.left owner key n i (value, is) in
      sym (inserted_beside state.active (state.begun + 1) owner (λ e. absurd (omega (arith, low, e)))) ∙ kept

  kept_by_fewer : (slot : Slot) (x : ℕ) → is_kept (set.remove state.active x) slot ≡ true → is_kept state.active slot ≡ true
  kept_by_fewer Free x kept = absurd (false≢true kept)
  kept_by_fewer (Live key value) x kept = refl
  kept_by_fewer (Ghost key value owner) x kept = removed_was state.active x owner kept

  -- on the pages that are seen no more slots are kept than before
  pub no_more_by_begin : KeepsNoMore state.active (set.insert state.active (state.begun + 1)) view
  no_more_by_begin n p sees i kept =
      kept_without_new n i (slice_index_or (bucket_of p).slots i Free) (ap (λ (q : Option Page). slice_index_or (bucket_of q).slots i Free) (agree n p sees)) kept

  pub no_more_by_end : (other : ℕ) → KeepsNoMore state.active (set.remove state.active other) view
  no_more_by_end other n p sees i kept = kept_by_fewer (slice_index_or (bucket_of p).slots i Free) other kept

module _ (state : AbstractState) (tx : ℕ) (walk : WalkFields) (view : View) (h : PagesMeanHistory state) (stands : IsStanding (context_of state tx) walk view) (agree : Agrees view.seen (map.get state.pages)) where
  pub stands_by_begin : IsStanding (record (context_of state tx) { active = set.insert state.active (state.begun + 1) }) walk view
  stands_by_begin = stands_still (context_of state tx) (set.insert state.active (state.begun + 1)) walk view (map.get state.pages) (no_more_by_begin state view h agree) agree h.file.form stands

  pub stands_by_end : (other : ℕ) → IsStanding (record (context_of state tx) { active = set.remove state.active other }) walk view
  stands_by_end other =
      stands_still (context_of state tx) (set.remove state.active other) walk view (map.get state.pages) (no_more_by_end state view h agree other) agree h.file.form stands
