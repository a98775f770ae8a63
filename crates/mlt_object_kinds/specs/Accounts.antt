-- The table of accounts. A state is a balance, or None where there is no account.
use Rattle.std.specs.Prelude.{◌≡◌, ℕ, ◌+◌, ◌-◌, ◌≤◌, ◌<◌, ◌^◌, Option, None, Some}
use Rattle.mlt_object_kinds.specs.declared.{account.AccountOp.AccountOp, operation.ObjReply.ObjReply}
use Rattle.mlt_object_kinds.specs.declared.account.AccountOp.TheVariants.{Open, Close, Deposit, Withdraw, Balance}
use Rattle.mlt_object_kinds.specs.declared.operation.ObjReply.TheVariants.{Opened, Exists, Closed, NotEmpty, Done, Over, Short, Missing, Is}

-- the greatest balance
abbrev pub max_balance : ℕ
max_balance = 1000000000000000000

-- absent, or a balance in range
abbrev pub IsAccount : Option ℕ → Type 0
IsAccount None = Unit {0}
IsAccount (Some balance) = balance ≤ max_balance

-- in which states an operation gets the reply
abbrev pub IsLegalOnAccount : AccountOp → ObjReply → Option ℕ → Type 0
IsLegalOnAccount Open Opened None = Unit {0}
IsLegalOnAccount Open Exists (Some b) = b ≤ max_balance
IsLegalOnAccount Close Closed (Some b) = b ≡ 0
IsLegalOnAccount Close NotEmpty (Some b) = (1 ≤ b) × (b ≤ max_balance)
IsLegalOnAccount (Deposit n) Done (Some b) = (n < 2 ^ 64) × (b + n ≤ max_balance)
IsLegalOnAccount (Deposit n) Over (Some b) = (n < 2 ^ 64) × (b ≤ max_balance) × (max_balance < b + n)
IsLegalOnAccount (Withdraw n) Done (Some b) = (n < 2 ^ 64) × (b ≤ max_balance) × (n ≤ b)
IsLegalOnAccount (Withdraw n) Short (Some b) = (n < 2 ^ 64) × (b ≤ max_balance) × (b < n)
IsLegalOnAccount Balance (Is v) (Some b) = (b ≤ max_balance) × (b ≡ v)
IsLegalOnAccount Close Missing None = Unit {0}
IsLegalOnAccount (Deposit n) Missing None = n < 2 ^ 64
IsLegalOnAccount (Withdraw n) Missing None = n < 2 ^ 64
IsLegalOnAccount Balance Missing None = Unit {0}
IsLegalOnAccount _ _ _ = ⊥

-- the state after an operation that gets the reply
abbrev pub account_after : AccountOp → ObjReply → Option ℕ → Option ℕ
account_after Open Opened s = Some 0
account_after Close Closed s = None
account_after (Deposit n) Done (Some b) = Some (b + n)
account_after (Withdraw n) Done (Some b) = Some (b - n)
account_after _ _ s = s

-- from the state before, the operation gets the reply and leads to the state after
abbrev pub AccountStep : Option ℕ → AccountOp → ObjReply → Option ℕ → Type 0
AccountStep before op reply after = IsLegalOnAccount op reply before × (account_after op reply before ≡ after)
