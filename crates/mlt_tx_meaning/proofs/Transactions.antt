-- Beginnings and ends of transactions keep the match. The pages stay.
use Rattle.std.proofs.Common.{◌≡◌, ◌≢◌, ◌↔◌, ℕ, ◌+◌, Bool, true, false, List, [], Contains, refl, sym, subst, ap, ◌∙◌, inl, inr, arith}
use Rattle.mlt_tx_meaning.proofs.Names.{both_ways, cases_eq, ObjOp, ObjReply, Lists, after_entry, Fresh, Running, table_with, contains-nothing, changed, PagesMatchOperations, Ledger, presences_on, standing_of, IsOpenAt, PagesMeanHistory, AbstractState, ledger_of, lists_in}
use Rattle.std.specs.FinSet as set
use Rattle.mlt_order.specs.{Histories.Stage, Histories.ended, Histories.Entry.Begun, Histories.Entry.Closed, Histories.Entry.Committed, Histories.Stage.Ended, Tables.SameElsewhere}
use Rattle.mlt_hash_ghosts.{specs.Ledgers.IsOpenIn, proofs.Transactions.begin_law, proofs.Transactions.close_law}
use Rattle.mlt_tx_meaning.{specs.Events.with_begun, specs.Events.with_closed, specs.Events.with_committed, proofs.OpenNumbers.inserted_beside, proofs.OpenNumbers.inserted_here, proofs.OpenNumbers.removed_beside, proofs.OpenNumbers.removed_here}
use Rattle.mlt_tx_meaning.proofs.Matches.{FitsLists, both, grown, lists_kept, runs}

-- of who is not open nobody asks whether it is undone
undoing_changed : (ledger : Ledger) (undoing : ℕ → Bool) → PagesMatchOperations ledger → ((t : ℕ) → IsOpenIn ledger t → undoing t ≡ false → ledger.undoing t ≡ false)
    → PagesMatchOperations (record ledger { undoing = undoing })
undoing_changed ledger undoing matches fewer = record {
  step = λ t k is_open. let step = matches.step t k is_open in record {
    ghost = step.ghost;
    absent = step.absent;
    present = step.present;
    revived = step.revived;
    once = step.once;
    forward = λ f. step.forward (fewer t is_open f);
  };
  turns = matches.turns;
  alone = matches.alone;
  opened = matches.opened;
  left = matches.left;
}

fresh_is_not_running : (s : Stage) → s ≡ Fresh → s ≢ Running
fresh_is_not_running s is runs = let f : Fresh ≡ Running = sym is ∙ runs in cc

-- ---- a beginning

module _ (state : AbstractState) (undoing : ℕ → Bool) (h : PagesMeanHistory state) (same : SameElsewhere state.undoing undoing (state.begun + 1)) where
  abbrev lists : Lists (ObjOp × ObjReply)
  lists = lists_in state

  new_is_fresh : lists.stage (state.begun + 1) ≡ Fresh
  new_is_fresh = h.records.fresh (state.begun + 1) (omega arith)

  open_is_old : (t : ℕ) → set.contains state.active t ≡ true → t ≡ state.begun + 1 → ⊥
  open_is_old t is_open e = let low = h.file.ghosts.opened t is_open in absurd (omega (arith, low, e))

  nothing_stands : (key : ℕ) → standing_of lists.transcripts (state.begun + 1) key ≡ []
  nothing_stands key = ap (presences_on key) ((lists_kept state h).only (state.begun + 1) (fresh_is_not_running _ new_is_fresh)).0

  begun_runs : (i : ℕ) → (set.contains (set.insert state.active (state.begun + 1)) i ≡ true) ↔ (table_with lists.stage (state.begun + 1) Running i ≡ Running)
  begun_runs i =
      let stage = changed lists.stage (state.begun + 1) Running in
      elim (cases_eq i (state.begun + 1)) [
        | inl e ↦ (λ o. ap (table_with lists.stage (state.begun + 1) Running) e ∙ stage.0, λ r. ap (set.contains (set.insert state.active (state.begun + 1))) e ∙ inserted_here state.active (state.begun + 1))
        | inr n ↦
            let there = inserted_beside state.active (state.begun + 1) i n in
            (λ o. stage.1 i n ∙ (h.records.running i).0 (sym there ∙ o), λ r. there ∙ (h.records.running i).1 (sym (stage.1 i n) ∙ r))
      ]

  begun_fits : FitsLists (with_begun state undoing) (after_entry lists (Begun (state.begun + 1)))
  begun_fits = record {
    running = begun_runs;
    fresh = λ i above. (changed lists.stage (state.begun + 1) Running).1 i (λ e. absurd (omega (arith, above, e))) ∙ h.records.fresh i (omega (arith, above));
    file = let ghosts =
        begin_law (record (ledger_of state) { undoing = undoing }) (standing_of lists.transcripts)
        (undoing_changed (ledger_of state) undoing h.file.ghosts (λ t is_open f. sym (same t (open_is_old t is_open)) ∙ f))
        nothing_stands (λ owner key differs. refl) in
        record { bounded = h.file.bounded; small = h.file.small; form = h.file.form; shallow = h.file.shallow; ghosts = ghosts };
    in_range = h.records.in_range;
    counted = h.records.counted;
    sized = h.records.sized;
  }

  pub begin_keeps : PagesMeanHistory (with_begun state undoing)
  begin_keeps =
      grown (with_begun state undoing) state.history (Begun (state.begun + 1)) state.base refl h.records.means h.records.history (new_is_fresh, refl) begun_fits

-- ---- the beginning of an abort

pub abort_keeps : (state : AbstractState) (undoing : ℕ → Bool) → PagesMeanHistory state → ((tx : ℕ) → undoing tx ≡ false → state.undoing tx ≡ false)
    → PagesMeanHistory (record state { undoing = undoing })
abort_keeps state undoing h fewer =
    both (record state { undoing = undoing }) h.records.means h.records.history
    (record {
      running = h.records.running;
      fresh = h.records.fresh;
      file = let ghosts =
          undoing_changed (ledger_of state) undoing h.file.ghosts (λ t is_open f. fewer t f) in
          record { bounded = h.file.bounded; small = h.file.small; form = h.file.form; shallow = h.file.shallow; ghosts = ghosts };
      in_range = h.records.in_range;
      counted = h.records.counted;
      sized = h.records.sized;
    })

-- ---- an end

module _ (state : AbstractState) (tx : ℕ) (undoing : ℕ → Bool) (h : PagesMeanHistory state) (is_open : IsOpenAt state tx) (same : SameElsewhere state.undoing undoing tx) where
  abbrev old : Lists (ObjOp × ObjReply)
  old = lists_in state

  abbrev closed : AbstractState
  closed = record state { active = set.remove state.active tx; undoing = undoing }

  others_run : (i : ℕ) → (set.contains (set.remove state.active tx) i ≡ true) ↔ (table_with old.stage tx Ended i ≡ Running)
  others_run i =
      let stage = changed old.stage tx Ended in
      elim (cases_eq i tx) [
        | inl e ↦ (
          λ o. absurd (both_ways _ (removed_here state.active tx) (ap (set.contains (set.remove state.active tx)) (sym e) ∙ o)),
          λ r. absurd (let f : Ended ≡ Running = sym stage.0 ∙ ap (table_with old.stage tx Ended) (sym e) ∙ r in cc f),
        )
        | inr n ↦
            let there = removed_beside state.active tx i n in
            (λ o. stage.1 i n ∙ (h.records.running i).0 (sym there ∙ o), λ r. there ∙ (h.records.running i).1 (sym (stage.1 i n) ∙ r))
      ]

  -- of other transactions what is listed stays
  still : (table : ℕ → List (ObjOp × ObjReply)) (i : ℕ) (item : ObjOp × ObjReply) → Contains (table_with table tx [] i) item → Contains (table i) item
  still table i item there =
      let list = changed table tx [] in
      elim (cases_eq i tx) [
        | inl e ↦ absurd (contains-nothing item (subst (λ (l : List (ObjOp × ObjReply)). Contains l item) (ap (table_with table tx []) e ∙ list.0) there))
        | inr n ↦ subst (λ (l : List (ObjOp × ObjReply)). Contains l item) (list.1 i n) there
      ]

  -- the lists of an end, whichever it is
  pub ended_fits : FitsLists closed (ended old tx)
  ended_fits = record {
    running = others_run;
    fresh = λ i above.
        let low = h.file.ghosts.opened tx is_open in
        (changed old.stage tx Ended).1 i (λ e. absurd (omega (arith, above, low, e))) ∙ h.records.fresh i above;
    file = let ghosts =
        undoing_changed (record (ledger_of state) { active = set.remove state.active tx; standing = standing_of (ended old tx).transcripts }) undoing
        (close_law (ledger_of state) (standing_of (ended old tx).transcripts) tx h.file.ghosts (λ t key differs. ap (presences_on key) ((changed old.transcripts tx []).1 t differs))).0
        (λ t still_open f. sym (same t (λ e. both_ways _ (removed_here state.active tx) (ap (set.contains (set.remove state.active tx)) (sym e) ∙ still_open))) ∙ f) in
        record { bounded = h.file.bounded; small = h.file.small; form = h.file.form; shallow = h.file.shallow; ghosts = ghosts };
    in_range = λ i item there. h.records.in_range i item (still old.held i item there);
    counted = λ i item there. h.records.counted i item (still old.transcripts i item there);
    sized = λ i item there. h.records.sized i item (still old.transcripts i item there);
  }

  pub commit_keeps : PagesMeanHistory (with_committed state tx undoing)
  commit_keeps =
      let fits = ended_fits in
      grown (with_committed state tx undoing) state.history (Committed tx) state.base refl
      h.records.means h.records.history (runs state h tx is_open, refl)
      (record { running = fits.running; fresh = fits.fresh; file = fits.file; in_range = fits.in_range; counted = fits.counted; sized = fits.sized })

  pub close_keeps : old.transcripts tx ≡ [] → PagesMeanHistory (with_closed state tx undoing)
  close_keeps none =
      let fits = ended_fits in
      grown (with_closed state tx undoing) state.history (Closed tx) state.base refl
      h.records.means h.records.history (runs state h tx is_open, none, refl)
      (record { running = fits.running; fresh = fits.fresh; file = fits.file; in_range = fits.in_range; counted = fits.counted; sized = fits.sized })
