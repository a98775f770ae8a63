-- All that an operation changes keeps the file with its ghosts.
use Rattle.std.proofs.Common.{◌≡◌, ℕ, false, Contains, Option, nat_cmp}
use Rattle.std.specs.FinMap as map
use Rattle.mlt_tx_meaning.proofs.Names.{IsInRange, Cell, Page, Transcript, ObjOp, ObjReply, cell_of, RecChange, changes_on, own_change_on, size_change_on, changes_of, told_by, live_records, Presence, Removed, Standing, ChangesPages, op_key, presence_of, standing_of, IsOpenAt, IsFileWithGhosts, PagesMeanHistory, AbstractState, ledger_with, ledger_of, lists_in, record_of, size_record_of, stood_in}
use Rattle.mlt_tx_meaning.proofs.ChangeGhosts.{KeepsResized, added, counted, file_stays, removed, resized, size_made, updated}
use Rattle.mlt_tx_meaning.proofs.{Matches.in_range_there, RecordChanges.changes_split, Replies.by_reply, Replies.by_size_change, Standings.IsUnopposed, Standings.Says, Standings.nothing_on_counts}

module _ (state : AbstractState) (tx : ℕ) (op : ObjOp) (pages : map.FinMap nat_cmp Page) (transcripts : ℕ → Transcript) (h : PagesMeanHistory state) (is_open : IsOpenAt state tx) (forward : state.undoing tx ≡ false) (is : IsInRange (cell_of op))
    (in_range : (i : ℕ) (item : ObjOp × ObjReply) → Contains (transcripts i) item → IsInRange (cell_of item.0)) where
  abbrev standing : Standing
  standing = standing_of transcripts

  -- the record of its own cell
  abbrev LeavesFile : map.FinMap nat_cmp Page → Option Presence → Option RecChange → Type 0
  LeavesFile between said change = ChangesPages state tx (own_change_on op change) between → Says said (stood_in state) standing tx (op_key op) → IsUnopposed said (ledger_of state) tx (op_key op)
      → IsFileWithGhosts (ledger_with (record state { pages = between }) standing) state.max_depth

  own_keeps_file : (between : map.FinMap nat_cmp Page) → LeavesFile between (presence_of (op, told_by (live_records state.pages) op)) (changes_of (live_records state.pages) op).own
  own_keeps_file between = by_reply op (record_of state op) (LeavesFile between) (record {
    added = added state tx (cell_of op) between (stood_in state) standing h.file is_open forward;
    removed = removed state tx (cell_of op) between (stood_in state) standing h.file is_open forward;
    updated = updated state tx (cell_of op) between (stood_in state) standing h.file is_open forward;
    counted = λ on. counted state tx (cell_of op) between (stood_in state) standing h.file is_open forward (λ owner. nothing_on_counts (lists_in state).transcripts (in_range_there state h) (cell_of op) on is owner Removed);
    stays = λ same says unopposed. file_stays state between (stood_in state) standing h.file same says;
  })

  pub done_keeps_file : ChangesPages state tx (changes_on op (changes_of (live_records state.pages) op)) pages → Says (presence_of (op, told_by (live_records state.pages) op)) (stood_in state) standing tx (op_key op)
      → IsUnopposed (presence_of (op, told_by (live_records state.pages) op)) (ledger_of state) tx (op_key op) → IsFileWithGhosts (ledger_with (record state { pages = pages }) standing) state.max_depth
  done_keeps_file changes says unopposed =
      let asked = changes_of (live_records state.pages) op in
      let split = changes_split state tx (own_change_on op asked.own) (size_change_on op asked.size) pages changes in
      let own = own_keeps_file split.0 split.1 says unopposed in
      let between : AbstractState = record state { pages = split.0 } in
      by_size_change (op, told_by (live_records state.pages) op) (size_record_of state op) (KeepsResized between tx op pages standing own is_open is)
      (size_made between tx op pages standing own is_open is forward (λ s is owner. nothing_on_counts transcripts in_range (Cell.Size s) tt is owner Removed))
      (resized between tx op pages standing own is_open is) split.2
