-- What numbers operations and replies can have.
use Rattle.std.specs.Prelude.{◌<◌, ◌^◌}
use Rattle.mlt_object_kinds.specs.declared.{account.AccountOp.AccountOp, counter.CounterOp.CounterOp, operation.ObjOp.ObjOp, operation.ObjOp.TheVariants.Account, operation.ObjOp.TheVariants.Element, operation.ObjOp.TheVariants.Counter, operation.ObjOp.TheVariants.Size, operation.ObjReply.ObjReply, operation.ObjReply.TheVariants.Is}

abbrev pub FitsAccount : AccountOp → Type 0
FitsAccount (AccountOp.Deposit n) = n < 2 ^ 64
FitsAccount (AccountOp.Withdraw n) = n < 2 ^ 64
FitsAccount op = Unit {0}

abbrev pub FitsCounter : CounterOp → Type 0
FitsCounter (CounterOp.Up n) = n < 2 ^ 64
FitsCounter (CounterOp.Down n) = n < 2 ^ 64
FitsCounter CounterOp.Read = Unit {0}

-- the numbers of the operation are those of their types
abbrev pub FitsOp : ObjOp → Type 0
FitsOp (Account a op) = (a < 2 ^ 32) × FitsAccount op
FitsOp (Element s e op) = (s < 2 ^ 16) × (e < 2 ^ 32)
FitsOp (Counter c op) = (c < 2 ^ 32) × FitsCounter op
FitsOp (Size s) = s < 2 ^ 16

-- the number of the reply, if it has one, has 64 bits
abbrev pub FitsReply : ObjReply → Type 0
FitsReply (Is v) = v < 2 ^ 64
FitsReply r = Unit {0}

-- the numbers of an operation and its reply are those of their types
pub record FitsDone (done : ObjOp × ObjReply) : Type 0 where
  pub op : FitsOp done.0
  pub reply : FitsReply done.1
