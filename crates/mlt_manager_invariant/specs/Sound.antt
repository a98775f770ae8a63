-- What is always true of a manager of transactions
use Rattle.std.specs.Prelude.{ℕ, ◌≡◌, ◌≤◌, ◌<◌, List, [], ◌∷◌, ◌++◌, length, None, Some, is_some, IsSome}
use Rattle.std.specs.FinMap as map
use Rattle.std.specs.FinSet as set
use Rattle.mlt_object_kinds.specs.{declared.operation.ObjOp.ObjOp, declared.operation.ObjReply.ObjReply, Operations.cell_of}
use Rattle.mlt_order.specs.Interleavings.{items_of}
use Rattle.mlt_object_base.specs.{Effects.inverse_of, declared.request.Request.TheVariants.Do}
use Rattle.mlt_object_locks.specs.Locks.{reservation_of}
use Rattle.mlt_trace.specs.{Numbers.AreBegunInOrder, Numbers.AreCounted, Numbers.begin_count, Rooms.total_room}
use Rattle.mlt_hash_access.specs.{Views.view_of, Running.AllMayStep, Running.HoldsNothing, Running.local_of}
use Rattle.mlt_tx_operation.specs.Operating.{IsOperating, OperationFields}
use Rattle.mlt_tx_meaning.specs.{Presences.IsOpInRange, AbstractStates.PagesMeanHistory, AbstractStates.context_of, AbstractStates.lists_in}
use Rattle.mlt_tx.specs.{declared.transaction.At.At, declared.transaction.Transaction.Transaction, Steps.IsInverting}
use Rattle.mlt_manager_invariant.specs.States.{State, all_of, images_kept, room_of, abstract_state_of}

-- the operation of transaction i stands by what it has read
abbrev pub Operates : State → ℕ → OperationFields → Type 0
Operates s i o = IsOperating (context_of (abstract_state_of s) i) o (view_of (local_of (all_of s) i))

-- An operation is pending: it stands, its cell is reserved, and there is room for its undo entry.
pub record HasPending (s : State) (i : ℕ) (t : Transaction) (o : OperationFields) : Type 0 where
  pub op : ObjOp
  pub asked : o.request ≡ Do op
  pub in_range : IsOpInRange op
  pub operates : Operates s i o
  pub reserved : reservation_of s.shared.objects.reserved i ≡ Some (cell_of op)
  pub spare : 1 ≤ t.undo.spare
  pub fewer : length t.undo.entries < s.max_ops

-- An inverse runs: it takes back the last operation that stands, and stands itself.
pub record HasInverse (s : State) (i : ℕ) (t : Transaction) (o : OperationFields) : Type 0 where
  pub front : List (ObjOp × ObjReply)
  pub last : ObjOp × ObjReply
  pub entries : t.undo.entries ≡ front ++ last ∷ []
  pub inverts : IsInverting last o
  pub has : IsSome (inverse_of last)
  pub operates : Operates s i o

-- what is true of a transaction that is at this
abbrev pub FitsAt : At → State → ℕ → Transaction → Type 0
FitsAt At.Idle s i t = HoldsNothing (all_of s) i
FitsAt (At.Pending o) s i t = HasPending s i t o
FitsAt (At.Undoing None) s i t = HoldsNothing (all_of s) i × (t.undo.entries ≡ [] → ⊥)
FitsAt (At.Undoing (Some o)) s i t = HasInverse s i t o

-- What is true of open transaction i: its undo list has what stands of it, no more than it may, and it is where it is.
pub record Fits (s : State) (i : ℕ) (t : Transaction) : Type 0 where
  pub number : t.subtx.tx ≡ i
  pub stands : t.undo.entries ≡ (lists_in (abstract_state_of s)).transcripts i
  pub few : length t.undo.entries ≤ s.max_ops
  pub where_at : FitsAt t.at s i t

-- What is always true of a manager.
pub record IsSound (s : State) : Type 0 where
  -- the clean pages are a hash file that means the base to which the history leads
  pub match : PagesMeanHistory (abstract_state_of s)
  -- each open transaction may step; it keeps these images, and is where it is
  pub running : AllMayStep (all_of s)
  pub kept : (i : ℕ) → map.get s.images i ≡ images_kept (map.get s.txs i)
  pub opened : (i : ℕ) → set.contains s.active i ≡ is_some (map.get s.txs i)
  pub fits : (i : ℕ) (t : Transaction) → map.get s.txs i ≡ Some t → Fits s i t
  -- object locks are what the history says that transactions hold
  pub held : (i : ℕ) → items_of i s.shared.objects.held ≡ (lists_in (abstract_state_of s)).held i
  -- numbers are given out in order, and so are those of commits; and the history has the room that it may need
  pub begun : AreBegunInOrder s.shared.history.items
  pub count : s.begun ≡ begin_count s.shared.history.items
  pub commits : AreCounted s.shared.history.items
  pub room : s.shared.history.room ≡ total_room room_of s.txs
