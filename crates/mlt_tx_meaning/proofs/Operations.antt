-- The end of an operation keeps the match.
use Rattle.std.proofs.Common.{◌≡◌, ℕ, List, [], ◌∷◌, ◌++◌, Contains, refl, sym, subst, ap, ◌∙◌, inl, inr, arith, slice_index_or, nat_cmp}
use Rattle.mlt_tx_meaning.proofs.Names.{cases_eq, IsInRange, Cell, Page, ObjOp, ObjReply, Base, Step, cell_of, RecChange, Means, changes_of, record_in, records_after, size_record_in, told_by, changes_on, HasSizeToUndo, HasWhatIsUndone, Lists, after_entry, Gains, table_with, changed, live_records, ChangesPages, presence_of, MayDo, PagesMeanHistory, AbstractState, lists_in, record_of}
use Rattle.std.proofs.lemmas.List.Elements.{Contains-append_cases}
use Rattle.std.specs.FinMap as map
use Rattle.mlt_object_base.proofs.{OperationChanges.means_step, SizeRecords.has_size_now, SizeRecords.has_size_still}
use Rattle.mlt_object_conflicts.proofs.BaseOrder.{did_may_come}
use Rattle.mlt_order.specs.Histories.Entry.{Did}
use Rattle.mlt_tx_meaning.{specs.Events.with_done, proofs.DoneGhosts.done_keeps_file, proofs.Matches.FitsLists, proofs.Matches.grown, proofs.Matches.in_range_there, proofs.Matches.runs, proofs.RecordChanges.records_become, proofs.RecordsAfter.KeepsRecord, proofs.RecordsAfter.counted_now, proofs.RecordsAfter.counted_still, proofs.RecordsAfter.done_keeps, proofs.Replies.IsCount, proofs.Replies.StepsByRecord, proofs.Replies.reply_steps, proofs.Standings.gain_says, proofs.Standings.may_do_unopposed}

only_one : (x y : ObjOp × ObjReply) → Contains (x ∷ []) y → x ≡ y
only_one x y h =
    let first : h.0 ≡ 0 = omega (arith, h.1) in
    subst (λ k. slice_index_or (x ∷ []) k y ≡ y) first h.2

-- what is listed with one item more is listed before, or is that item
listed : (table : ℕ → List (ObjOp × ObjReply)) (tx : ℕ) (item : ObjOp × ObjReply) (F : ObjOp × ObjReply → Type 0) → ((i : ℕ) (x : ObjOp × ObjReply) → Contains (table i) x → F x) → F item
    → (i : ℕ) (x : ObjOp × ObjReply) → Contains (table_with table tx (table tx ++ item ∷ []) i) x → F x
listed table tx item F before new i x there =
    let now = changed table tx (table tx ++ item ∷ []) in
    let InList : List (ObjOp × ObjReply) → Type 0 = λ l. Contains l x in
    elim (cases_eq i tx) [
      | inl e ↦ elim (Contains-append_cases (table tx) (item ∷ []) x (subst InList (ap (table_with table tx (table tx ++ item ∷ [])) e ∙ now.0) there)) [
        | inl old ↦ before tx x old
        | inr one ↦ subst F (only_one item x one) new
      ]
      | inr n ↦ before i x (subst InList (now.1 i n) there)
    ]

module _ (state : AbstractState) (tx : ℕ) (op : ObjOp) (pages : map.FinMap nat_cmp Page) (h : PagesMeanHistory state) where
  abbrev records : map.FinMap nat_cmp ℕ
  records = live_records state.pages

  abbrev item : ObjOp × ObjReply
  item = (op, told_by records op)

  abbrev changes : List (Cell × RecChange)
  changes = changes_on op (changes_of records op)

  abbrev lists : Lists (ObjOp × ObjReply)
  lists = lists_in state

  module _ (may : MayDo state tx item) (changed_by : ChangesPages state tx changes pages) where
    records_are : live_records pages ≡ records_after records changes
    records_are = records_become state tx changes pages h.file.bounded h.file.form changed_by

    -- its cell makes its step
    cell_steps : StepsByRecord op (record_of state op)
    cell_steps = reply_steps op (record_of state op) (h.records.means.can_be (cell_of op) may.in_range.cell) may.in_range.amount

    steps : (after : Base) × Step state.base item after × Means (live_records pages) after
    steps =
        let range = may.in_range.cell in
        let step = means_step records state.base op h.records.means range cell_steps.1 cell_steps.0 in
        (step.0, step.1, subst (λ (r : map.FinMap nat_cmp ℕ). Means r step.0) (sym records_are) step.2)

    gains : Gains lists.transcripts (after_entry lists (Did tx item)).transcripts tx item
    gains = changed lists.transcripts tx (lists.transcripts tx ++ item ∷ [])

    in_range_then : (i : ℕ) (x : ObjOp × ObjReply) → Contains ((after_entry lists (Did tx item)).transcripts i) x → IsInRange (cell_of x.0)
    in_range_then = listed lists.transcripts tx item (λ x. IsInRange (cell_of x.0)) (in_range_there state h) may.in_range.cell

    done_fits : (base : Base) → FitsLists (with_done state tx item pages base) (after_entry lists (Did tx item))
    done_fits base = record {
      running = h.records.running;
      fresh = h.records.fresh;
      file = done_keeps_file state tx op pages (after_entry lists (Did tx item)).transcripts h may.is_open may.forward may.in_range.cell in_range_then changed_by
          (gain_says lists.transcripts (after_entry lists (Did tx item)).transcripts tx item gains (presence_of item) refl)
          (may_do_unopposed state h tx item may (presence_of item) refl);
      in_range = listed lists.held tx item (λ x. IsInRange (cell_of x.0)) h.records.in_range may.in_range.cell;
      counted = listed lists.transcripts tx item (λ x. HasWhatIsUndone x (record_in (live_records pages) (cell_of x.0)))
          (λ i x there. then (λ r. HasWhatIsUndone x (record_in r (cell_of x.0))) (counted_still records changes keeps x (in_range_there state h i x there) (h.records.counted i x there)))
          (then (λ r. HasWhatIsUndone item (record_in r (cell_of op))) (counted_now records op));
      sized = listed lists.transcripts tx item (λ x. HasSizeToUndo x (size_record_in (live_records pages) x.0))
          (λ i x there. then (λ r. HasSizeToUndo x (size_record_in r x.0)) (has_size_still records op x may.in_range.cell (in_range_there state h i x there) (h.records.sized i x there)))
          (then (λ r. HasSizeToUndo item (size_record_in r op)) (has_size_now records state.base op h.records.means may.in_range.cell cell_steps.1 cell_steps.0));
    }
      where
        then : (F : map.FinMap nat_cmp ℕ → Type 0) → F (records_after records changes) → F (live_records pages)
        then F has = subst F (sym records_are) has

        keeps : (c : Cell) → IsCount c → KeepsRecord c changes
        keeps c on = done_keeps records c op on may.in_range.cell

    pub operation_keeps : (base : Base) × Step state.base item base × PagesMeanHistory (with_done state tx item pages base)
    operation_keeps =
        let step = steps in (
          step.0,
          step.1,
          grown (with_done state tx item pages step.0) state.history (Did tx item) state.base refl
              step.2 h.records.history (did_may_come lists state.base step.0 tx item (runs state h tx may.is_open) step.1 may.free) (done_fits step.0),
        )
