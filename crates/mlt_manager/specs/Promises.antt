-- What is promised of a manager between any two events
use Rattle.std.specs.Prelude.{ℕ, ◌≡◌, ◌↔◌, true, Some, is_some}
use Rattle.std.specs.Ordering.{nat_cmp}
use Rattle.std.specs.FinMap as map
use Rattle.std.specs.FinSet as set
use Rattle.mlt_types.specs.{declared.cell.Cell.Cell, Cells.IsInRange, Cells.key_number}
use Rattle.mlt_page.specs.declared.page.Page.{Page}
use Rattle.mlt_object_kinds.specs.{Bases.Base, Bases.Step, Bases.empty_base, declared.operation.ObjOp.ObjOp, declared.operation.ObjReply.ObjReply}
use Rattle.mlt_object_base.specs.Records.{IsRecord}
use Rattle.mlt_order.specs.{Histories.Lists, Histories.lists_of, Histories.Stage.Running, Interleavings.UndoneTo, Interleavings.items_of, Runs.IsSerialBase}
use Rattle.mlt_trace.specs.{Entries.entries_of, Numbers.AreBegunInOrder, Numbers.AreCounted, Numbers.committed_txs, Items.trace_text}
use Rattle.mlt_page_locks.specs.LockTables.{AreCompatible}
use Rattle.mlt_hash_form.specs.{Prefixes.IsExtendibleHashFile, Records.live_records}
use Rattle.mlt_hash_ghosts.specs.{Ghosts.GhostsAreKept, Ledgers.Ledger}
use Rattle.mlt_trace_check.specs.Traces.{IsAcceptedTrace}
use Rattle.mlt_tx.specs.declared.transaction.Transaction.{Transaction}
use Rattle.mlt_tx_meaning.specs.Presences.{standing_of}
use Rattle.mlt_manager_invariant.specs.States.{undoing_of}
use Rattle.mlt_manager.specs.{Bases.HasBase, Courses.KeepsPromiseOver, Courses.course_of, Managers.ManagerFields, PassLocks.HoldsLocksOfItsPass}

-- what the history tells of: what was committed, in the order of the commits, and what stands of each open transaction
abbrev pub lists_by : {P : Type 0} → ManagerFields P → Lists (ObjOp × ObjReply)
lists_by m = lists_of (entries_of m.shared.history.items)

-- what the rule of ghosts is about
abbrev pub ledger_by : {P : Type 0} → (P → ℕ → ℕ) → ManagerFields P → map.FinMap nat_cmp Page
    → Ledger
ledger_by bits_of m clean = record {
  bits = bits_of m.root.pseudo;
  root = m.root.page;
  pages = map.get clean;
  begun = m.begun;
  active = m.active;
  undoing = undoing_of m.txs;
  standing = standing_of (lists_by m).transcripts;
}

-- Open are just those in the table, and just those that the history has begun and not ended. Each has its number, and its
-- undo list has what the history says that stands of it. Its object locks are all that the history says it did, taken back
-- or not, and nobody else holds any. Page locks of two transactions go with each other.
pub record MatchesHistory {P : Type 0} (m : ManagerFields P) : Type 0 where
  pub in_table : (i : ℕ) → set.contains m.active i ≡ is_some (map.get m.txs i)
  pub in_history : (i : ℕ) → (set.contains m.active i ≡ true) ↔ ((lists_by m).stage i ≡ Running)
  pub number : (i : ℕ) (one : Transaction) → map.get m.txs i ≡ Some one → one.subtx.tx ≡ i
  pub undo : (i : ℕ) (one : Transaction) → map.get m.txs i ≡ Some one
      → one.undo.entries ≡ (lists_by m).transcripts i
  pub held : (i : ℕ) → items_of i m.shared.objects.held ≡ (lists_by m).held i
  pub page_locks : AreCompatible m.shared.pages.locks

-- the main promise, and what else is promised
pub record KeepsPromises {P : Type 0} (bits_of : P → ℕ → ℕ) (m : ManagerFields P) : Type 0 where
  pub main : KeepsPromiseOver (course_of m) m
  -- The clean pages are an extendible hash file with records that the cells can have, in which removals of open transactions
  -- have their ghosts.
  pub file : IsExtendibleHashFile (bits_of m.root.pseudo) m.active (map.get main.clean) m.root.page
  pub can_be : (cell : Cell) → IsInRange cell
      → IsRecord cell (map.get (live_records main.clean) (key_number cell))
  pub ghosts : GhostsAreKept (ledger_by bits_of m main.clean)
  -- a running operation holds the page locks of its pass, and nobody else holds any
  pub locks : (i : ℕ) → HoldsLocksOfItsPass bits_of m (map.get main.clean) i
  -- who is open, what may be taken back and what is held is what the history says
  pub history : MatchesHistory m
  pub begun : AreBegunInOrder m.shared.history.items
  pub commits : AreCounted m.shared.history.items

-- the base to which the committed transcripts lead, one after another; it is left when what is open is taken back
pub record IsCommittedBaseOf {P : Type 0} (m : ManagerFields P) (base : Base) : Type 0 where
  pub serial : IsSerialBase Step empty_base (lists_by m).committed base
  pub undone : (state : Base) → HasBase m state → UndoneTo Step base (lists_by m).transcripts state

-- the text of the history is an accepted trace
pub record PassesTheChecker {P : Type 0} (m : ManagerFields P) : Type 0 where
  pub base : Base
  pub accepted : IsAcceptedTrace (trace_text m.shared.history.items)
      (committed_txs m.shared.history.items) base
  pub committed : IsCommittedBaseOf m base
