-- Clean pages and a history of transactions, and what it is that they match.
use Rattle.std.specs.Prelude.{ℕ, ◌≡◌, ◌≤◌, ◌<◌, ◌↔◌, Bool, true, List, Contains, Option}
use Rattle.std.specs.Ordering.{nat_cmp}
use Rattle.std.specs.FinMap as map
use Rattle.std.specs.FinSet as set
use Rattle.mlt_types.specs.{Cells.IsInRange, declared.cell.Cell.Cell}
use Rattle.mlt_page.specs.declared.page.Page.{Page}
use Rattle.mlt_object_kinds.specs.{Bases.Base, Bases.Step, Bases.empty_base, Operations.cell_of, declared.operation.ObjOp.ObjOp, declared.operation.ObjReply.ObjReply}
use Rattle.mlt_order.specs.Histories.{Entry, IsHistory, Lists, lists_of, Stage.Fresh, Stage.Running}
use Rattle.mlt_object_base.specs.{Meaning.Means, Meaning.record_in, Meaning.size_record_in, Records.HasSizeToUndo, Records.HasWhatIsUndone}
use Rattle.mlt_hash_form.specs.{File.GivesPseudokeys, File.HasForm, File.depth_of, Records.live_records}
use Rattle.mlt_hash.specs.Walks.{WalkContext, nothing_before}
use Rattle.mlt_hash_ghosts.specs.{Ghosts.PagesMatchOperations, Ledgers.Ledger, Operations.Standing}
use Rattle.mlt_tx_meaning.specs.Presences.{standing_of}

-- a hash file with its transactions, what these did, and the base that this leads to
pub record AbstractState : Type 0 where
  -- the hash file: the function from keys to pseudokeys, the page of the header, how deep the directory may get, and
  -- the clean pages
  pub bits : ℕ → ℕ
  pub root : ℕ
  pub max_depth : ℕ
  pub pages : map.FinMap nat_cmp Page
  -- The transactions: the numbers up to `begun` were given out, `active` are open, and `undoing` tells those whose
  -- abort has begun.
  pub begun : ℕ
  pub active : set.FinSet nat_cmp
  pub undoing : ℕ → Bool
  -- what they did, and the base that it leads to
  pub history : List (Entry (ObjOp × ObjReply))
  pub base : Base

-- what the history of an abstract state tells of
abbrev pub lists_in : AbstractState → Lists (ObjOp × ObjReply)
lists_in state = lists_of state.history

-- what stands of the operations of its transactions on the presence of keys
abbrev pub stood_in : AbstractState → Standing
stood_in state = standing_of (lists_in state).transcripts

-- what the laws of ghosts are about, where this stands
abbrev pub ledger_with : AbstractState → Standing → Ledger
ledger_with state standing = record {
  bits = state.bits;
  root = state.root;
  pages = map.get state.pages;
  begun = state.begun;
  active = state.active;
  undoing = state.undoing;
  standing = standing;
}

abbrev pub ledger_of : AbstractState → Ledger
ledger_of state = ledger_with state (stood_in state)

-- what a walk of transaction tx to its first key goes by
abbrev pub context_of : AbstractState → ℕ → WalkContext
context_of state tx = record {
  bits = state.bits;
  active = state.active;
  root = state.root;
  max_depth = state.max_depth;
  tx = tx;
  before = nothing_before;
}

-- the record of a cell, on the clean pages
abbrev pub record_at : AbstractState → Cell → Option ℕ
record_at state cell = record_in (live_records state.pages) cell

-- the record of the cell that an operation is on
abbrev pub record_of : AbstractState → ObjOp → Option ℕ
record_of state op = record_at state (cell_of op)

-- the size record of the set that it is on
abbrev pub size_record_of : AbstractState → ObjOp → Option ℕ
size_record_of state op = size_record_in (live_records state.pages) op

-- The clean pages are a hash file, its directory is no deeper than it may get, and ghosts are where removals that
-- stand ask for them. It says nothing of what the records mean: each change of a record keeps it.
pub record IsFileWithGhosts (ledger : Ledger) (max_depth : ℕ) : Type 0 where
  pub bounded : GivesPseudokeys ledger.bits
  pub small : max_depth ≤ 16
  pub form : HasForm ledger.bits ledger.pages ledger.root
  pub shallow : depth_of ledger.pages ledger.root ≤ max_depth
  pub ghosts : PagesMatchOperations ledger

-- The records mean the base to which the history leads, and have what its open transactions may take back. Between
-- two changes of one operation they need not.
pub record RecordsMeanHistory (state : AbstractState) : Type 0 where
  pub means : Means (live_records state.pages) state.base
  -- the history leads to the base from the empty one
  pub history : IsHistory Step empty_base state.history state.base
  -- the open transactions are those that run, and what was not given out has not begun
  pub running : (i : ℕ) → (set.contains state.active i ≡ true) ↔ ((lists_in state).stage i ≡ Running)
  pub fresh : (i : ℕ) → state.begun < i → (lists_in state).stage i ≡ Fresh
  -- all that is held is on cells that there can be, and counters that are to be counted back have their records, as sets
  -- have their size records
  pub in_range : (i : ℕ) (item : ObjOp × ObjReply) → Contains ((lists_in state).held i) item → IsInRange (cell_of item.0)
  pub counted : (i : ℕ) (item : ObjOp × ObjReply) → Contains ((lists_in state).transcripts i) item
      → HasWhatIsUndone item (record_of state item.0)
  pub sized : (i : ℕ) (item : ObjOp × ObjReply) → Contains ((lists_in state).transcripts i) item
      → HasSizeToUndo item (size_record_of state item.0)

-- The clean pages are a hash file with its ghosts, whose records mean the base to which the history leads.
pub record PagesMeanHistory (state : AbstractState) : Type 0 where
  pub file : IsFileWithGhosts (ledger_of state) state.max_depth
  pub records : RecordsMeanHistory state
