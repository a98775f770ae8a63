-- Operations that take an amount.
use Rattle.std.specs.Prelude.{ℕ}
use Rattle.mlt_object_kinds.specs.declared.{account.AccountOp.AccountOp, counter.CounterOp.CounterOp, operation.ObjOp.ObjOp, operation.ObjOp.TheVariants.Account, operation.ObjOp.TheVariants.Counter}
use Rattle.mlt_script.specs.declared.statement.AmountOp.{AmountOp}

-- the operation with this amount
abbrev pub with_amount : AmountOp → ℕ → ObjOp
with_amount (AmountOp.Deposit a) n = Account a (AccountOp.Deposit n)
with_amount (AmountOp.Withdraw a) n = Account a (AccountOp.Withdraw n)
with_amount (AmountOp.Up c) n = Counter c (CounterOp.Up n)
with_amount (AmountOp.Down c) n = Counter c (CounterOp.Down n)
