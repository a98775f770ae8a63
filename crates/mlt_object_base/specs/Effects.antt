-- What each operation needs, is told and changes where it finds a record with a value or none, and how it is undone.
use Rattle.std.specs.Prelude.{ℕ, ◌+◌, ◌-◌, ◌%◌, ◌^◌, nat_lt, ◌==◌, cond, Bool, true, false, Option, None, Some, is_some, List, [], ◌∷◌, ◌++◌}
use Rattle.mlt_types.specs.{declared.cell.Cell.Cell, declared.mode.Mode.Mode, declared.mode.Mode.TheVariants.Shared, declared.mode.Mode.TheVariants.Exclusive, Cells.key_number}
use Rattle.mlt_object_kinds.specs.{declared.account.AccountOp.AccountOp, declared.counter.CounterOp.CounterOp, declared.counter.CounterOp.TheVariants.Up, declared.counter.CounterOp.TheVariants.Down, declared.counter.CounterOp.TheVariants.Read, declared.element.ElementOp.ElementOp, declared.operation.ObjOp.ObjOp, declared.operation.ObjOp.TheVariants.Account, declared.operation.ObjOp.TheVariants.Element, declared.operation.ObjOp.TheVariants.Counter, declared.operation.ObjOp.TheVariants.Size, declared.operation.ObjReply.ObjReply, Accounts.max_balance, Operations.cell_of}
use Rattle.mlt_object_kinds.specs.declared.account.AccountOp.TheVariants.{Open, Close, Deposit, Withdraw, Balance}
use Rattle.mlt_object_base.specs.declared.record.{RecordChanges.RecordChanges, RecChange.RecChange}
use Rattle.mlt_object_base.specs.declared.record.RecChange.TheVariants.{Add, Set, ToGhost, Revive, Plus, Minus}

-- operations that change nothing, whatever they find, share the bucket
abbrev pub mode_of : ObjOp → Mode
mode_of (Account a Balance) = Shared
mode_of (Element s e ElementOp.Has) = Shared
mode_of (Counter c Read) = Shared
mode_of (Size s) = Shared
mode_of _ = Exclusive

-- the key of the record that an operation is on, and the mode in which its bucket is locked
abbrev pub access_of : ObjOp → ℕ × Mode
access_of op = (key_number (cell_of op), mode_of op)

-- the reply, and the change of the record
abbrev pub account_reply_of : AccountOp → Option ℕ → ObjReply × Option RecChange
account_reply_of Open None = (ObjReply.Opened, Some (Add 0))
account_reply_of Open (Some v) = (ObjReply.Exists, None)
account_reply_of Close (Some v) = cond (v == 0) (ObjReply.Closed, Some ToGhost) (ObjReply.NotEmpty, None)
account_reply_of (Deposit n) (Some v) =
    cond (nat_lt max_balance (v + n)) (ObjReply.Over, None) (ObjReply.Done, Some (Set (v + n)))
account_reply_of (Withdraw n) (Some v) =
    cond (nat_lt v n) (ObjReply.Short, None) (ObjReply.Done, Some (Set (v - n)))
account_reply_of Balance (Some v) = (ObjReply.Is v, None)
account_reply_of _ None = (ObjReply.Missing, None)

abbrev pub element_reply_of : ElementOp → Bool → ObjReply × Option RecChange
element_reply_of ElementOp.Add false = (ObjReply.Added, Some (Add 0))
element_reply_of ElementOp.Add true = (ObjReply.Present, None)
element_reply_of ElementOp.Remove true = (ObjReply.Removed, Some ToGhost)
element_reply_of ElementOp.Remove false = (ObjReply.Absent, None)
element_reply_of ElementOp.Has true = (ObjReply.Yes, None)
element_reply_of ElementOp.Has false = (ObjReply.No, None)

abbrev pub counter_reply_of : CounterOp → Option ℕ → ObjReply × Option RecChange
counter_reply_of (Up n) (Some v) = (ObjReply.Done, Some (Set ((v + n) % 2 ^ 64)))
counter_reply_of (Up n) None = (ObjReply.Done, Some (Add n))
counter_reply_of (Down n) (Some v) = (ObjReply.Done, Some (Set ((v + (2 ^ 64 - n)) % 2 ^ 64)))
counter_reply_of (Down n) None = (ObjReply.Done, Some (Add ((2 ^ 64 - n) % 2 ^ 64)))
counter_reply_of Read (Some v) = (ObjReply.Is v, None)
counter_reply_of Read None = (ObjReply.Is 0, None)

-- a set without a size record has no element
abbrev pub size_reply_of : Option ℕ → ObjReply × Option RecChange
size_reply_of (Some v) = (ObjReply.Is v, None)
size_reply_of None = (ObjReply.Is 0, None)

-- what an operation is told, where its cell has this record or none, and how it changes that record
abbrev pub reply_of : ObjOp → Option ℕ → ObjReply × Option RecChange
reply_of (Account a op) live = account_reply_of op live
reply_of (Element s e op) live = element_reply_of op (is_some live)
reply_of (Counter c op) live = counter_reply_of op live
reply_of (Size s) live = size_reply_of live

-- What an operation that is told the reply changes of its set's size record, where that has a value or there is none:
-- an element that is added raises the size by 1, and makes the record where the set had none yet; one that is removed
-- lowers it by 1. Every other leaves it.
abbrev pub size_change_of : ObjOp × ObjReply → Option ℕ → Option RecChange
size_change_of (Element s e ElementOp.Add, ObjReply.Added) None = Some (Add 1)
size_change_of (Element s e ElementOp.Add, ObjReply.Added) (Some v) = Some (Plus 1)
size_change_of (Element s e ElementOp.Remove, ObjReply.Removed) found = Some (Minus 1)
size_change_of _ _ = None

-- the change of the record of the operation's own cell, if there is one
abbrev pub own_change_on : ObjOp → Option RecChange → List (Cell × RecChange)
own_change_on op None = []
own_change_on op (Some change) = (cell_of op, change) ∷ []

-- the change of the set's size record, if there is one; only an operation on an element has a set
abbrev pub size_change_on : ObjOp → Option RecChange → List (Cell × RecChange)
size_change_on (Element s e op) (Some change) = (Cell.Size s, change) ∷ []
size_change_on _ _ = []

-- the changes of records that an operation makes, each with its cell: of its own record, and then
-- of its set's size
abbrev pub changes_on : ObjOp → RecordChanges → List (Cell × RecChange)
changes_on op changes = own_change_on op changes.own ++ size_change_on op changes.size

-- the change that undoes the operation that was told the reply
abbrev pub account_inverse_of : AccountOp → ObjReply → Option RecChange
account_inverse_of Open ObjReply.Opened = Some ToGhost
account_inverse_of Close ObjReply.Closed = Some Revive
account_inverse_of (Deposit n) ObjReply.Done = Some (Minus n)
account_inverse_of (Withdraw n) ObjReply.Done = Some (Plus n)
account_inverse_of _ _ = None

abbrev pub element_inverse_of : ElementOp → ObjReply → Option RecChange
element_inverse_of ElementOp.Add ObjReply.Added = Some ToGhost
element_inverse_of ElementOp.Remove ObjReply.Removed = Some Revive
element_inverse_of _ _ = None

abbrev pub counter_inverse_of : CounterOp → ObjReply → Option RecChange
counter_inverse_of (Up n) ObjReply.Done = Some (Minus n)
counter_inverse_of (Down n) ObjReply.Done = Some (Plus n)
counter_inverse_of _ _ = None

-- The change that undoes the operation that was told the reply, on the record as it is then: it
-- adds to the value or takes from it, modulo 2^64, or makes a record a ghost, or a ghost a record.
abbrev pub inverse_of : ObjOp × ObjReply → Option RecChange
inverse_of (Account a op, reply) = account_inverse_of op reply
inverse_of (Element s e op, reply) = element_inverse_of op reply
inverse_of (Counter c op, reply) = counter_inverse_of op reply
inverse_of (Size s, reply) = None

-- the change that undoes what it did to its set's size
abbrev pub size_inverse_of : ObjOp × ObjReply → Option RecChange
size_inverse_of (Element s e ElementOp.Add, ObjReply.Added) = Some (Minus 1)
size_inverse_of (Element s e ElementOp.Remove, ObjReply.Removed) = Some (Plus 1)
size_inverse_of _ = None
