-- The match of clean pages and a history, by what the lists of the history ask of the rest.
use Rattle.std.proofs.Common.{◌≡◌, ◌↔◌, ℕ, ◌<◌, true, List, [], ◌∷◌, ◌++◌, Contains, sym, subst, ap, ◌∙◌, nat_cmp}
use Rattle.mlt_tx_meaning.proofs.Names.{nat_cmp_total, IsInRange, Page, Base, Step, empty_base, cell_of, ObjOp, ObjReply, IsHistory, Lists, after_entry, no_lists, Fresh, Running, Means, HasSizeToUndo, HasWhatIsUndone, base_functional, base_injective, live_records, KeepsPages, standing_of, IsFileWithGhosts, PagesMeanHistory, AbstractState, ledger_with, lists_in, record_of, size_record_of}
use Rattle.std.specs.FinMap as map
use Rattle.std.specs.FinSet as set
use Rattle.mlt_order.{specs.Histories.Entry, specs.Histories.MayCome, specs.Histories.lists_of, proofs.Growing.after_entries-push, proofs.Growing.follow_push, proofs.Keeping.Kept, proofs.Keeping.kept_by_history}

-- what lists ask of the rest
pub record FitsLists (state : AbstractState) (lists : Lists (ObjOp × ObjReply)) : Type 0 where
  pub file : IsFileWithGhosts (ledger_with state (standing_of lists.transcripts)) state.max_depth
  pub running : (i : ℕ) → (set.contains state.active i ≡ true) ↔ (lists.stage i ≡ Running)
  pub fresh : (i : ℕ) → state.begun < i → lists.stage i ≡ Fresh
  pub in_range : (i : ℕ) (item : ObjOp × ObjReply) → Contains (lists.held i) item → IsInRange (cell_of item.0)
  pub counted : (i : ℕ) (item : ObjOp × ObjReply) → Contains (lists.transcripts i) item → HasWhatIsUndone item (record_of state item.0)
  pub sized : (i : ℕ) (item : ObjOp × ObjReply) → Contains (lists.transcripts i) item → HasSizeToUndo item (size_record_of state item.0)

pub both : (state : AbstractState) → Means (live_records state.pages) state.base → IsHistory Step empty_base state.history state.base → FitsLists state (lists_in state) → PagesMeanHistory state
both state means history fits = record {
  file = fits.file;
  records = record { means = means; history = history; running = fits.running; fresh = fits.fresh; in_range = fits.in_range; counted = fits.counted; sized = fits.sized };
}

-- a history that has grown by an entry
pub grown : (state : AbstractState) (history : List (Entry (ObjOp × ObjReply))) (entry : Entry (ObjOp × ObjReply)) (before : Base) → state.history ≡ history ++ entry ∷ []
    → Means (live_records state.pages) state.base → IsHistory Step empty_base history before → MayCome Step (lists_of history) before entry state.base
    → FitsLists state (after_entry (lists_of history) entry) → PagesMeanHistory state
grown state history entry before is means leads comes fits =
    let lists : lists_in state ≡ after_entry (lists_of history) entry = ap lists_of is ∙ after_entries-push history no_lists entry in
    let whole : IsHistory Step empty_base state.history state.base =
    subst (λ (h : List (Entry (ObjOp × ObjReply))). IsHistory Step empty_base h state.base) (sym is) (follow_push Step history no_lists empty_base before state.base entry leads comes)
    in
    both state means whole (subst (FitsLists state) (sym lists) fits)

-- pages that are the same, number by number, are the same pages
pub kept_pages : (state : AbstractState) (pages : map.FinMap nat_cmp Page) → KeepsPages state pages → pages ≡ state.pages
kept_pages state pages same = map.same_map nat_cmp_total map.nat_cmp-IsAntisymmetric pages state.pages same

-- the match is about the pages as they are
pub same_pages_match : (state : AbstractState) (pages : map.FinMap nat_cmp Page) → PagesMeanHistory state → KeepsPages state pages → PagesMeanHistory (record state { pages = pages })
same_pages_match state pages h keeps = subst (λ (p : map.FinMap nat_cmp Page). PagesMeanHistory (record state { pages = p })) (sym (kept_pages state pages keeps)) h

-- what every history keeps of its lists
pub lists_kept : (state : AbstractState) → PagesMeanHistory state → Kept Step empty_base (lists_in state) state.base
lists_kept state h = kept_by_history Step empty_base base_functional base_injective state.history state.base h.records.history

-- an open transaction runs
pub runs : (state : AbstractState) → PagesMeanHistory state → (tx : ℕ) → set.contains state.active tx ≡ true → (lists_in state).stage tx ≡ Running
runs state h tx is_open = (h.records.running tx).0 is_open

-- what stands is on cells that there can be, as it is held
pub in_range_there : (state : AbstractState) → PagesMeanHistory state → (i : ℕ) (item : ObjOp × ObjReply) → Contains ((lists_in state).transcripts i) item → IsInRange (cell_of item.0)
in_range_there state h i item there = h.records.in_range i item ((lists_kept state h).covers i item there)
