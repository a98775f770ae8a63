-- The end of an inverse keeps the match, and what it needs is there.
use Rattle.std.proofs.Common.{◌≡◌, ◌≢◌, ℕ, Option, List, [], ◌∷◌, ◌++◌, Contains, refl, sym, subst, ap, ◌∙◌, inl, inr, arith, nat_cmp}
use Rattle.mlt_tx_meaning.proofs.Names.{cases_eq, IsInRange, Cell, Page, ObjOp, Account, Element, Counter, Size, ObjReply, Base, Step, empty_base, state_at, CellState, CellStep, cell_of, RecChange, Means, changes_back, record_in, records_after, size_record_in, changes_on, inverse_of, CanChange, HasSizeToUndo, HasWhatIsUndone, IsRecord, record_after, state_of_record, CanResize, TakeBack, base_functional, base_injective, Lists, after_entry, Gains, contains-first, changed, live_records, ChangesPages, presence_of, standing_of, MayUndo, PagesMeanHistory, AbstractState, lists_in, record_of, size_record_of}
use Rattle.std.proofs.lemmas.List.Elements.{Contains-append_left, Contains-append_right}
use Rattle.std.specs.FinMap as map
use Rattle.mlt_object_kinds.{proofs.Sizes.size_after_step, specs.Bases.TellsSize, specs.Bases.size_at}
use Rattle.mlt_object_base.proofs.{OperationChanges.means_step_back, SizeRecords.can_resize_back, SizeRecords.has_size_still_back}
use Rattle.mlt_order.{specs.Histories.but_last, specs.Histories.Entry.TookBack, proofs.Growing.but_last-push, proofs.Keeping.last_goes}
use Rattle.mlt_tx_meaning.{specs.Events.with_undone, proofs.Inverses.GoesBack, proofs.Inverses.inverse_back, proofs.Matches.FitsLists, proofs.Matches.grown, proofs.Matches.in_range_there, proofs.RecordChanges.records_become, proofs.RecordsAfter.KeepsRecord, proofs.RecordsAfter.counted_still, proofs.RecordsAfter.undone_keeps, proofs.Replies.IsCount, proofs.Standings.gain_says, proofs.UndoneGhosts.undone_keeps_file}

-- a size is as it was told, since the step that tells it changes none
told_after : (b c : Base) (item : ObjOp × ObjReply) → Step b item c → TellsSize c item
told_after b c (Size s, reply) step =
    let same = size_after_step b c (Size s, reply) s step in
    let sizes : size_at b s ≡ size_at c s = omega (arith, same) in
    step.2 ∙ ap ObjReply.Is sizes
told_after b c (Account a op, reply) step = tt
told_after b c (Element t e op, reply) step = tt
told_after b c (Counter d op, reply) step = tt

module _ (state : AbstractState) (tx : ℕ) (item : ObjOp × ObjReply) (h : PagesMeanHistory state) (may : MayUndo state tx item) where
  abbrev records : map.FinMap nat_cmp ℕ
  records = live_records state.pages

  abbrev live : Option ℕ
  live = record_of state item.0

  abbrev changes : List (Cell × RecChange)
  changes = changes_on item.0 (changes_back item)

  abbrev lists : Lists (ObjOp × ObjReply)
  lists = lists_in state

  -- the item is open, so its cell can be, and what it needs is there
  is_listed : Contains (lists.transcripts tx) item
  is_listed = subst (λ (l : List (ObjOp × ObjReply)). Contains l item) (sym may.last) (Contains-append_right may.rest (item ∷ []) item (contains-first item []))

  pub undone_in_range : IsInRange (cell_of item.0)
  undone_in_range = in_range_there state h tx item is_listed

  -- its step led here,
  led_here : (before : Base) × Step before item state.base
  led_here =
      let goes = last_goes Step empty_base base_functional base_injective state.history state.base tx may.rest item h.records.history may.last in
      (goes.0, goes.1)

  -- which its inverse takes back
  earlier : (before : CellState) × CellStep before item (state_of_record (cell_of item.0) live)
  earlier =
      let led = led_here in
      (state_at led.0 (cell_of item.0), subst (CellStep (state_at led.0 (cell_of item.0)) item) (h.records.means.holds (cell_of item.0) undone_in_range) led.1.0)

  back : GoesBack (state_of_record (cell_of item.0)) (IsRecord (cell_of item.0)) earlier.0 (inverse_of item) live
  back = inverse_back item earlier.0 live (h.records.means.can_be (cell_of item.0) undone_in_range) (h.records.counted tx item is_listed) earlier.1

  pub inverse_can : CanChange (inverse_of item) live
  inverse_can = back.2

  -- the size record is there too,
  size_to_undo : HasSizeToUndo item (size_record_of state item.0)
  size_to_undo = h.records.sized tx item is_listed

  cell_back : CellStep (state_of_record (cell_of item.0) (record_after (inverse_of item) live)) item (state_of_record (cell_of item.0) live)
  cell_back = subst (λ (s : CellState). CellStep s item (state_of_record (cell_of item.0) live)) (sym back.0) earlier.1

  -- and can be changed back
  pub undone_can_resize : (reply : ObjReply) → CanResize (TakeBack item) reply (size_record_of state item.0)
  undone_can_resize reply = can_resize_back records state.base item reply h.records.means undone_in_range back.1 cell_back size_to_undo

  module _ (pages : map.FinMap nat_cmp Page) (changed_by : ChangesPages state tx changes pages) where
    records_are : live_records pages ≡ records_after records changes
    records_are = records_become state tx changes pages h.file.bounded h.file.form changed_by

    step_back : (before : Base) × Step before item state.base × Means (live_records pages) before
    step_back =
        let led = led_here in
        let step = means_step_back records state.base item h.records.means undone_in_range back.1 cell_back size_to_undo (told_after led.0 state.base item led.1) in
        (step.0, step.1, subst (λ (r : map.FinMap nat_cmp ℕ). Means r step.0) (sym records_are) step.2)

    abbrev left : Lists (ObjOp × ObjReply)
    left = after_entry lists (TookBack tx)

    shorter : left.transcripts tx ≡ may.rest
    shorter = (changed lists.transcripts tx (but_last (lists.transcripts tx))).0 ∙ ap but_last may.last ∙ but_last-push may.rest item

    elsewhere : (i : ℕ) → i ≢ tx → left.transcripts i ≡ lists.transcripts i
    elsewhere = (changed lists.transcripts tx (but_last (lists.transcripts tx))).1

    gains : Gains left.transcripts lists.transcripts tx item
    gains = (may.last ∙ ap (λ (l : List (ObjOp × ObjReply)). l ++ item ∷ []) (sym shorter), λ j n. sym (elsewhere j n))

    was_listed : (i : ℕ) (x : ObjOp × ObjReply) → Contains (left.transcripts i) x → Contains (lists.transcripts i) x
    was_listed i x there =
        let InList : List (ObjOp × ObjReply) → Type 0 = λ l. Contains l x in
        elim (cases_eq i tx) [
          | inl e ↦ subst InList (sym (ap lists.transcripts e ∙ may.last)) (Contains-append_left may.rest (item ∷ []) x (subst InList (ap left.transcripts e ∙ shorter) there))
          | inr n ↦ subst InList (elsewhere i n) there
        ]

    undone_fits : (base : Base) → FitsLists (with_undone state tx pages base) left
    undone_fits base = record {
      running = h.records.running;
      fresh = h.records.fresh;
      file = undone_keeps_file state tx item pages (standing_of left.transcripts) h may.is_open may.backward undone_in_range changed_by
          (gain_says left.transcripts lists.transcripts tx item gains (presence_of item) refl);
      in_range = h.records.in_range;
      counted = λ i x there.
          let was = was_listed i x there in
          subst (λ (r : map.FinMap nat_cmp ℕ). HasWhatIsUndone x (record_in r (cell_of x.0))) (sym records_are) (counted_still records changes keeps x (in_range_there state h i x was) (h.records.counted i x was));
      sized = λ i x there.
          let was = was_listed i x there in
          subst (λ (r : map.FinMap nat_cmp ℕ). HasSizeToUndo x (size_record_in r x.0)) (sym records_are) (has_size_still_back records item x undone_in_range (in_range_there state h i x was) (h.records.sized i x was));
    }
      where
        keeps : (c : Cell) → IsCount c → KeepsRecord c changes
        keeps c on = undone_keeps c item on undone_in_range

    pub undoing_keeps : (base : Base) × Step base item state.base × PagesMeanHistory (with_undone state tx pages base)
    undoing_keeps =
        let step = step_back in (
          step.0,
          step.1,
          grown (with_undone state tx pages step.0) state.history (TookBack tx) state.base refl
              step.2 h.records.history (may.rest, item, may.last, step.1) (undone_fits step.0),
        )
