-- The record of a cell, which is the value in the live slot of its key, or None where there is no such slot; what it
-- means; and changes of it.
use Rattle.std.specs.Prelude.{◌≡◌, ℕ, ◌+◌, ◌-◌, ◌%◌, ◌^◌, ◌<◌, Option, None, Some, is_some, IsSome}
use Rattle.mlt_types.specs.declared.cell.Cell.{Cell}
use Rattle.mlt_object_kinds.specs.{declared.counter.CounterOp.TheVariants.Up, declared.counter.CounterOp.TheVariants.Down, declared.element.ElementOp.ElementOp, declared.operation.ObjOp.ObjOp, declared.operation.ObjOp.TheVariants.Counter, declared.operation.ObjOp.TheVariants.Element, declared.operation.ObjReply.ObjReply, Accounts.IsAccount, Cells.CellState, Cells.CellState.AccountState, Cells.CellState.ElementState, Cells.CellState.CounterState, Cells.CellState.NoState}
use Rattle.mlt_object_base.specs.declared.record.RecChange.{RecChange}
use Rattle.mlt_object_base.specs.declared.record.RecChange.TheVariants.{Add, Set, ToGhost, Revive, Plus, Minus}

-- the value of a counter, or of the size of a set, with this record
abbrev pub counter_of_record : Option ℕ → ℕ
counter_of_record None = 0
counter_of_record (Some v) = v

-- what a cell with this record holds: an account its balance, an element whether it is there, a counter its value, which
-- is 0 where there is no record; the size of a set nothing of its own
abbrev pub state_of_record : Cell → Option ℕ → CellState
state_of_record (Cell.Account a) live = AccountState live
state_of_record (Cell.Element s e) live = ElementState (is_some live)
state_of_record (Cell.Counter c) live = CounterState (counter_of_record live)
state_of_record (Cell.Size s) live = NoState

-- what the record of an element can be
abbrev pub IsElementRecord : Option ℕ → Type 0
IsElementRecord None = Unit {0}
IsElementRecord (Some v) = v ≡ 0

-- the record of this cell can be this: a balance is in range, an element has the value 0, and a counter and a size have
-- 64 bits
abbrev pub IsRecord : Cell → Option ℕ → Type 0
IsRecord (Cell.Account a) live = IsAccount live
IsRecord (Cell.Element s e) live = IsElementRecord live
IsRecord (Cell.Counter c) live = counter_of_record live < 2 ^ 64
IsRecord (Cell.Size s) live = counter_of_record live < 2 ^ 64

-- the record with the amount added, or taken away, modulo 2^64
abbrev pub plus : ℕ → Option ℕ → Option ℕ
plus n None = None
plus n (Some v) = Some ((v + n) % 2 ^ 64)

abbrev pub minus : ℕ → Option ℕ → Option ℕ
minus n None = None
minus n (Some v) = Some ((v + (2 ^ 64 - n)) % 2 ^ 64)

-- the record after a change
abbrev pub record_after : Option RecChange → Option ℕ → Option ℕ
record_after None live = live
record_after (Some (Add v)) live = Some v
record_after (Some (Set v)) live = Some v
record_after (Some ToGhost) live = None
record_after (Some Revive) live = Some 0
record_after (Some (Plus n)) live = plus n live
record_after (Some (Minus n)) live = minus n live

-- the change can be made: to add or to revive there is to be no record, for the others there is to be one
abbrev pub CanChange : Option RecChange → Option ℕ → Type 0
CanChange None live = Unit {0}
CanChange (Some (Add v)) live = live ≡ None
CanChange (Some Revive) live = live ≡ None
CanChange (Some _) live = IsSome live

-- a counter that was counted up or down has a record, since none is ever removed
abbrev pub HasWhatIsUndone : ObjOp × ObjReply → Option ℕ → Type 0
HasWhatIsUndone (Counter c (Up n), reply) live = IsSome live
HasWhatIsUndone (Counter c (Down n), reply) live = IsSome live
HasWhatIsUndone _ live = Unit {0}

-- a set of which an element was added or removed has a size record, since none of these is ever
-- removed
abbrev pub HasSizeToUndo : ObjOp × ObjReply → Option ℕ → Type 0
HasSizeToUndo (Element s e ElementOp.Add, ObjReply.Added) live = IsSome live
HasSizeToUndo (Element s e ElementOp.Remove, ObjReply.Removed) live = IsSome live
HasSizeToUndo _ live = Unit {0}
