-- What is always true of the items that a manager's history has
use Rattle.std.specs.Prelude.{ℕ, ◌≡◌, false, Some}
use Rattle.std.specs.FinMap as map
use Rattle.mlt_object_kinds.specs.Bases.{Base, Step, empty_base}
use Rattle.mlt_order.specs.{Interleavings.UndoneTo, Runs.IsSerialBase}
use Rattle.mlt_trace_check.specs.Traces.{ArePlaced, IsWhole}
use Rattle.mlt_tx_meaning.specs.AbstractStates.{lists_in}
use Rattle.mlt_tx.specs.declared.transaction.Transaction.{Transaction}
use Rattle.mlt_manager_invariant.specs.States.{State, is_undoing, abstract_state_of}

-- Each item has its place, and of an open transaction something was taken back only if its abort has begun.
pub record IsTraced (s : State) : Type 0 where
  pub placed : ArePlaced s.shared.history.items
  pub whole : (i : ℕ) (t : Transaction) → map.get s.txs i ≡ Some t → is_undoing t.at ≡ false
      → IsWhole s.shared.history.items i

-- The committed transcripts, in the order of the commits, lead from the empty base to this one; and it is left of the
-- manager's base when what is open is undone.
pub record IsCommittedBase (s : State) (base : Base) : Type 0 where
  pub serial : IsSerialBase Step empty_base (lists_in (abstract_state_of s)).committed base
  pub undone : UndoneTo Step base (lists_in (abstract_state_of s)).transcripts s.base
