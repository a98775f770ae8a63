-- The conflict table of accounts.
use Rattle.std.specs.Prelude.{ℕ, ◌+◌, ◌-◌, Bool, true, false, Option, Some, None}
use Rattle.mlt_object_kinds.specs.{declared.account.AccountOp.AccountOp, declared.operation.ObjReply.ObjReply, Accounts.max_balance}
use Rattle.mlt_object_kinds.specs.declared.account.AccountOp.TheVariants.{Open, Close, Deposit, Withdraw, Balance}
use Rattle.mlt_object_conflicts.specs.declared.accounts.AccountClass.{AccountClass}

-- the class of an operation with a reply, None where the table has no such row
abbrev pub account_class : AccountOp → ObjReply → Option AccountClass
account_class Open ObjReply.Opened = Some AccountClass.Opened
account_class Open ObjReply.Exists = Some AccountClass.Exists
account_class Close ObjReply.Closed = Some AccountClass.Closed
account_class Close ObjReply.NotEmpty = Some AccountClass.NotEmpty
account_class (Deposit n) ObjReply.Done = Some AccountClass.Deposited
account_class (Deposit n) ObjReply.Over = Some AccountClass.Over
account_class (Withdraw n) ObjReply.Done = Some AccountClass.Withdrawn
account_class (Withdraw n) ObjReply.Short = Some AccountClass.Short
account_class Balance (ObjReply.Is v) = Some AccountClass.Balance
account_class Close ObjReply.Missing = Some AccountClass.Missing
account_class (Deposit n) ObjReply.Missing = Some AccountClass.Missing
account_class (Withdraw n) ObjReply.Missing = Some AccountClass.Missing
account_class Balance ObjReply.Missing = Some AccountClass.Missing
account_class _ _ = None

-- the marked pairs, held first and then requested
abbrev pub account_marks : AccountClass → AccountClass → Bool
account_marks AccountClass.Opened AccountClass.Exists = true
account_marks AccountClass.Opened AccountClass.Closed = true
account_marks AccountClass.Opened AccountClass.Deposited = true
account_marks AccountClass.Opened AccountClass.Over = true
account_marks AccountClass.Opened AccountClass.Withdrawn = true
account_marks AccountClass.Opened AccountClass.Short = true
account_marks AccountClass.Opened AccountClass.Balance = true
account_marks AccountClass.Exists AccountClass.Closed = true
account_marks AccountClass.Closed AccountClass.Opened = true
account_marks AccountClass.Closed AccountClass.Missing = true
account_marks AccountClass.NotEmpty AccountClass.Withdrawn = true
account_marks AccountClass.Deposited AccountClass.Closed = true
account_marks AccountClass.Deposited AccountClass.NotEmpty = true
account_marks AccountClass.Deposited AccountClass.Over = true
account_marks AccountClass.Deposited AccountClass.Withdrawn = true
account_marks AccountClass.Deposited AccountClass.Balance = true
account_marks AccountClass.Over AccountClass.Closed = true
account_marks AccountClass.Over AccountClass.Withdrawn = true
account_marks AccountClass.Withdrawn AccountClass.Closed = true
account_marks AccountClass.Withdrawn AccountClass.Deposited = true
account_marks AccountClass.Withdrawn AccountClass.Short = true
account_marks AccountClass.Withdrawn AccountClass.Balance = true
account_marks AccountClass.Short AccountClass.Closed = true
account_marks AccountClass.Short AccountClass.Deposited = true
account_marks AccountClass.Balance AccountClass.Closed = true
account_marks AccountClass.Balance AccountClass.Deposited = true
account_marks AccountClass.Balance AccountClass.Withdrawn = true
account_marks AccountClass.Missing AccountClass.Opened = true
account_marks _ _ = false

-- an operation of the class with its reply, of this amount where it has one
abbrev pub account_item : AccountClass → ℕ → AccountOp × ObjReply
account_item AccountClass.Opened n = (Open, ObjReply.Opened)
account_item AccountClass.Exists n = (Open, ObjReply.Exists)
account_item AccountClass.Closed n = (Close, ObjReply.Closed)
account_item AccountClass.NotEmpty n = (Close, ObjReply.NotEmpty)
account_item AccountClass.Deposited n = (Deposit n, ObjReply.Done)
account_item AccountClass.Over n = (Deposit n, ObjReply.Over)
account_item AccountClass.Withdrawn n = (Withdraw n, ObjReply.Done)
account_item AccountClass.Short n = (Withdraw n, ObjReply.Short)
account_item AccountClass.Balance n = (Balance, ObjReply.Is n)
account_item AccountClass.Missing n = (Close, ObjReply.Missing)

-- amounts of the held and of the requested operation, and a state, at which marked classes break
abbrev pub account_breach : AccountClass → AccountClass → ℕ × ℕ × Option ℕ
account_breach AccountClass.Opened AccountClass.Over = (0, max_balance + 1, None)
account_breach AccountClass.Opened AccountClass.Short = (0, 1, None)
account_breach AccountClass.Opened _ = (0, 0, None)
account_breach AccountClass.Exists _ = (0, 0, Some 0)
account_breach AccountClass.Closed _ = (0, 0, Some 0)
account_breach AccountClass.NotEmpty _ = (0, 1, Some 1)
account_breach AccountClass.Deposited AccountClass.Closed = (0, 0, Some 0)
account_breach AccountClass.Deposited AccountClass.Over = (1, 1, Some (max_balance - 1))
account_breach AccountClass.Deposited _ = (1, 1, Some 0)
account_breach AccountClass.Over AccountClass.Closed = (max_balance + 1, 0, Some 0)
account_breach AccountClass.Over _ = (1, 1, Some max_balance)
account_breach AccountClass.Withdrawn AccountClass.Deposited = (1, 1, Some max_balance)
account_breach AccountClass.Withdrawn AccountClass.Balance = (1, 0, Some 1)
account_breach AccountClass.Withdrawn _ = (1, 1, Some 1)
account_breach AccountClass.Short _ = (1, 1, Some 0)
account_breach AccountClass.Balance AccountClass.Withdrawn = (1, 1, Some 1)
account_breach AccountClass.Balance AccountClass.Deposited = (0, 1, Some 0)
account_breach AccountClass.Balance _ = (0, 0, Some 0)
account_breach AccountClass.Missing _ = (0, 0, None)
