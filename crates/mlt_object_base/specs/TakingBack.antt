-- The operations that take others back.
use Rattle.std.specs.Prelude.{Option, Some, None}
use Rattle.mlt_object_kinds.specs.declared.{account.AccountOp.AccountOp, counter.CounterOp.CounterOp, element.ElementOp.ElementOp, operation.ObjOp.ObjOp, operation.ObjOp.TheVariants.Account, operation.ObjOp.TheVariants.Element, operation.ObjOp.TheVariants.Counter, operation.ObjReply.ObjReply}
use Rattle.mlt_object_kinds.specs.declared.operation.ObjReply.TheVariants.{Opened, Closed, Done, Added, Removed}

-- the operation that takes one with its reply back, None where that changed nothing
abbrev pub opposite_of : ObjOp × ObjReply → Option ObjOp
opposite_of (Account a AccountOp.Open, Opened) = Some (Account a AccountOp.Close)
opposite_of (Account a AccountOp.Close, Closed) = Some (Account a AccountOp.Open)
opposite_of (Account a (AccountOp.Deposit n), Done) = Some (Account a (AccountOp.Withdraw n))
opposite_of (Account a (AccountOp.Withdraw n), Done) = Some (Account a (AccountOp.Deposit n))
opposite_of (Element s e ElementOp.Add, Added) = Some (Element s e ElementOp.Remove)
opposite_of (Element s e ElementOp.Remove, Removed) = Some (Element s e ElementOp.Add)
opposite_of (Counter c (CounterOp.Up n), reply) = Some (Counter c (CounterOp.Down n))
opposite_of (Counter c (CounterOp.Down n), reply) = Some (Counter c (CounterOp.Up n))
opposite_of _ = None
