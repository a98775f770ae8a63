-- The parts of operations and replies. A part that an operation or a reply does not have is 0.
use Rattle.std.specs.Prelude.{ℕ}
use Rattle.mlt_object_kinds.specs.declared.{account.AccountOp.AccountOp, element.ElementOp.ElementOp, counter.CounterOp.CounterOp, operation.ObjOp.ObjOp, operation.ObjOp.TheVariants.Account, operation.ObjOp.TheVariants.Element, operation.ObjOp.TheVariants.Counter, operation.ObjReply.ObjReply, packed.OpKind.OpKind, packed.ReplyKind.ReplyKind, packed.Packed.Packed}
use Rattle.mlt_object_kinds.specs.declared.packed.OpKind.TheVariants.{Open, Close, Deposit, Withdraw, Balance, Add, Remove, Has, Up, Down, Read, Size}
use Rattle.mlt_object_kinds.specs.declared.packed.ReplyKind.TheVariants.{Opened, Exists, Closed, NotEmpty, Done, Over, Short, Missing, Added, Present, Removed, Absent, Yes, No, Is}

-- the operation of this kind, with what it has of a set, a number and an amount
abbrev pub op_of : OpKind → ℕ → ℕ → ℕ → ObjOp
op_of Open _ number _ = Account number AccountOp.Open
op_of Close _ number _ = Account number AccountOp.Close
op_of Deposit _ number amount = Account number (AccountOp.Deposit amount)
op_of Withdraw _ number amount = Account number (AccountOp.Withdraw amount)
op_of Balance _ number _ = Account number AccountOp.Balance
op_of Add set number _ = Element set number ElementOp.Add
op_of Remove set number _ = Element set number ElementOp.Remove
op_of Has set number _ = Element set number ElementOp.Has
op_of Up _ number amount = Counter number (CounterOp.Up amount)
op_of Down _ number amount = Counter number (CounterOp.Down amount)
op_of Read _ number _ = Counter number CounterOp.Read
op_of Size set _ _ = ObjOp.Size set

-- the reply of this kind, with the value told where it has one
abbrev pub reply_of : ReplyKind → ℕ → ObjReply
reply_of Opened _ = ObjReply.Opened
reply_of Exists _ = ObjReply.Exists
reply_of Closed _ = ObjReply.Closed
reply_of NotEmpty _ = ObjReply.NotEmpty
reply_of Done _ = ObjReply.Done
reply_of Over _ = ObjReply.Over
reply_of Short _ = ObjReply.Short
reply_of Missing _ = ObjReply.Missing
reply_of Added _ = ObjReply.Added
reply_of Present _ = ObjReply.Present
reply_of Removed _ = ObjReply.Removed
reply_of Absent _ = ObjReply.Absent
reply_of Yes _ = ObjReply.Yes
reply_of No _ = ObjReply.No
reply_of Is told = ObjReply.Is told

-- the kind of an operation
abbrev pub op_kind : ObjOp → OpKind
op_kind (Account _ AccountOp.Open) = Open
op_kind (Account _ AccountOp.Close) = Close
op_kind (Account _ (AccountOp.Deposit _)) = Deposit
op_kind (Account _ (AccountOp.Withdraw _)) = Withdraw
op_kind (Account _ AccountOp.Balance) = Balance
op_kind (Element _ _ ElementOp.Add) = Add
op_kind (Element _ _ ElementOp.Remove) = Remove
op_kind (Element _ _ ElementOp.Has) = Has
op_kind (Counter _ (CounterOp.Up _)) = Up
op_kind (Counter _ (CounterOp.Down _)) = Down
op_kind (Counter _ CounterOp.Read) = Read
op_kind (ObjOp.Size _) = Size

-- the set of an operation, 0 where it has none
abbrev pub set_of : ObjOp → ℕ
set_of (Element set _ _) = set
set_of (ObjOp.Size set) = set
set_of _ = 0

-- the number of the account, the element or the counter, 0 where there is none
abbrev pub number_of : ObjOp → ℕ
number_of (Account number _) = number
number_of (Element _ number _) = number
number_of (Counter number _) = number
number_of _ = 0

-- the amount of an operation, 0 where it has none
abbrev pub amount_of : ObjOp → ℕ
amount_of (Account _ (AccountOp.Deposit amount)) = amount
amount_of (Account _ (AccountOp.Withdraw amount)) = amount
amount_of (Counter _ (CounterOp.Up amount)) = amount
amount_of (Counter _ (CounterOp.Down amount)) = amount
amount_of _ = 0

-- the kind of a reply
abbrev pub reply_kind : ObjReply → ReplyKind
reply_kind ObjReply.Opened = Opened
reply_kind ObjReply.Exists = Exists
reply_kind ObjReply.Closed = Closed
reply_kind ObjReply.NotEmpty = NotEmpty
reply_kind ObjReply.Done = Done
reply_kind ObjReply.Over = Over
reply_kind ObjReply.Short = Short
reply_kind ObjReply.Missing = Missing
reply_kind ObjReply.Added = Added
reply_kind ObjReply.Present = Present
reply_kind ObjReply.Removed = Removed
reply_kind ObjReply.Absent = Absent
reply_kind ObjReply.Yes = Yes
reply_kind ObjReply.No = No
reply_kind (ObjReply.Is _) = Is

-- the value told by a reply, 0 where it tells none
abbrev pub told_of : ObjReply → ℕ
told_of (ObjReply.Is told) = told
told_of _ = 0

-- the parts of an operation and a reply
abbrev pub parts_of : ObjOp → ObjReply → Packed
parts_of op reply = record {
  op = op_kind op;
  reply = reply_kind reply;
  set = set_of op;
  number = number_of op;
  amount = amount_of op;
  told = told_of reply;
}

-- the operation of these parts
abbrev pub op_in : Packed → ObjOp
op_in parts = op_of parts.op parts.set parts.number parts.amount

-- the reply of these parts
abbrev pub reply_in : Packed → ObjReply
reply_in parts = reply_of parts.reply parts.told
