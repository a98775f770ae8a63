-- All that takes an operation back keeps the file with its ghosts.
use Rattle.std.proofs.Common.{◌≡◌, ℕ, true, Option, sym, nat_cmp}
use Rattle.std.specs.FinMap as map
use Rattle.mlt_tx_meaning.proofs.Names.{IsInRange, Page, ObjOp, ObjReply, cell_of, RecChange, changes_on, inverse_of, own_change_on, size_change_on, size_inverse_of, changes_back, Presence, Standing, ChangesPages, op_key, presence_of, IsOpenAt, IsFileWithGhosts, PagesMeanHistory, AbstractState, ledger_with, stood_in}
use Rattle.mlt_tx_meaning.proofs.ChangeGhosts.{KeepsResized, added_back, file_stays, lowered, raised, removed_back, resized}
use Rattle.mlt_tx_meaning.proofs.{Inverses.by_inverse, Inverses.by_size_inverse, RecordChanges.changes_split, Standings.Says}

module _ (state : AbstractState) (tx : ℕ) (item : ObjOp × ObjReply) (pages : map.FinMap nat_cmp Page) (standing : Standing) (h : PagesMeanHistory state) (is_open : IsOpenAt state tx) (backward : state.undoing tx ≡ true) (is : IsInRange (cell_of item.0)) where
  -- the record of its own cell
  abbrev LeavesFile : map.FinMap nat_cmp Page → Option Presence → Option RecChange → Type 0
  LeavesFile between said change = ChangesPages state tx (own_change_on item.0 change) between → Says said standing (stood_in state) tx (op_key item.0)
      → IsFileWithGhosts (ledger_with (record state { pages = between }) standing) state.max_depth

  own_keeps_file : (between : map.FinMap nat_cmp Page) → LeavesFile between (presence_of item) (inverse_of item)
  own_keeps_file between = by_inverse item (LeavesFile between) (record {
    added = added_back state tx (cell_of item.0) between (stood_in state) standing h.file is_open backward;
    removed = removed_back state tx (cell_of item.0) between (stood_in state) standing h.file is_open;
    lowered = lowered state tx (cell_of item.0) between (stood_in state) standing h.file is_open;
    raised = raised state tx (cell_of item.0) between (stood_in state) standing h.file is_open;
    stays = λ same says. file_stays state between (stood_in state) standing h.file same (sym says);
  })

  pub undone_keeps_file : ChangesPages state tx (changes_on item.0 (changes_back item)) pages → Says (presence_of item) standing (stood_in state) tx (op_key item.0)
      → IsFileWithGhosts (ledger_with (record state { pages = pages }) standing) state.max_depth
  undone_keeps_file changes says =
      let split = changes_split state tx (own_change_on item.0 (inverse_of item)) (size_change_on item.0 (size_inverse_of item)) pages changes in
      let own = own_keeps_file split.0 split.1 says in
      let between : AbstractState = record state { pages = split.0 } in
      by_size_inverse item (KeepsResized between tx item.0 pages standing own is_open is) (resized between tx item.0 pages standing own is_open is) split.2
