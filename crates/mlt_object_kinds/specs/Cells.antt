-- What one cell holds, and the steps of one cell.
use Rattle.std.specs.Prelude.{ℕ, Option, Bool}
use Rattle.mlt_object_kinds.specs.{declared.operation.ObjOp.ObjOp, declared.operation.ObjOp.TheVariants.Account, declared.operation.ObjOp.TheVariants.Element, declared.operation.ObjOp.TheVariants.Counter, declared.operation.ObjOp.TheVariants.Size, declared.operation.ObjReply.ObjReply, declared.operation.ObjReply.TheVariants.Is, Accounts.AccountStep, Counters.CounterStep, Elements.ElementStep}

-- What a cell holds: the balance of an account that is there, whether an element is in its set, the value of a counter.
-- The cell of a set's size holds nothing of its own: the size is that of the set.
pub data CellState : Type 0 where
  AccountState : (balance : Option ℕ) → CellState
  ElementState : (present : Bool) → CellState
  CounterState : (value : ℕ) → CellState
  NoState : CellState

-- the reply is a number that was read
abbrev pub TellsNumber : ObjReply → Type 0
TellsNumber (Is n) = Unit {0}
TellsNumber _ = ⊥

-- an operation with its reply leads the cell that it is on from one state to the other, by the table of its kind
abbrev pub CellStep : CellState → ObjOp × ObjReply → CellState → Type 0
CellStep (AccountState s) (Account a op, reply) (AccountState t) = AccountStep s op reply t
CellStep (ElementState s) (Element set e op, reply) (ElementState t) = ElementStep s op reply t
CellStep (CounterState s) (Counter c op, reply) (CounterState t) = CounterStep s op reply t
CellStep NoState (Size set, reply) NoState = TellsNumber reply
CellStep _ _ _ = ⊥
