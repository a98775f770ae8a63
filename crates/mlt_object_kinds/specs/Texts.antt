-- The texts of operations and replies.
use Rattle.std.specs.Prelude.{ℕ, List, ◌∷◌, ◌++◌, codes, decimal}
use Rattle.mlt_object_kinds.specs.declared.{account.AccountOp.AccountOp, element.ElementOp.ElementOp, element.ElementOp.TheVariants.Add, element.ElementOp.TheVariants.Remove, element.ElementOp.TheVariants.Has, counter.CounterOp.CounterOp, counter.CounterOp.TheVariants.Up, counter.CounterOp.TheVariants.Down, counter.CounterOp.TheVariants.Read, operation.ObjOp.ObjOp, operation.ObjOp.TheVariants.Account, operation.ObjOp.TheVariants.Element, operation.ObjOp.TheVariants.Counter, operation.ObjOp.TheVariants.Size, operation.ObjReply.ObjReply}
use Rattle.mlt_object_kinds.specs.declared.account.AccountOp.TheVariants.{Open, Close, Deposit, Withdraw, Balance}
use Rattle.mlt_object_kinds.specs.declared.operation.ObjReply.TheVariants.{Opened, Exists, Closed, NotEmpty, Done, Over, Short, Missing, Added, Present, Removed, Absent, Yes, No, Is}

-- a word and a number after it, parted by a space
abbrev pub with_number : List ℕ → ℕ → List ℕ
with_number word n = word ++ 32 ∷ decimal n

abbrev pub account_op_text : ℕ → AccountOp → List ℕ
account_op_text a Open = with_number (codes "open") a
account_op_text a Close = with_number (codes "close") a
account_op_text a (Deposit n) = with_number (with_number (codes "deposit") a) n
account_op_text a (Withdraw n) = with_number (with_number (codes "withdraw") a) n
account_op_text a Balance = with_number (codes "balance") a

abbrev pub element_op_text : ℕ → ℕ → ElementOp → List ℕ
element_op_text s e Add = with_number (with_number (codes "add") s) e
element_op_text s e Remove = with_number (with_number (codes "remove") s) e
element_op_text s e Has = with_number (with_number (codes "has") s) e

abbrev pub counter_op_text : ℕ → CounterOp → List ℕ
counter_op_text c (Up n) = with_number (with_number (codes "up") c) n
counter_op_text c (Down n) = with_number (with_number (codes "down") c) n
counter_op_text c Read = with_number (codes "read") c

-- the text of an operation, as a script has it
abbrev pub op_text : ObjOp → List ℕ
op_text (Account a op) = account_op_text a op
op_text (Element s e op) = element_op_text s e op
op_text (Counter c op) = counter_op_text c op
op_text (Size s) = with_number (codes "size") s

-- the text of a reply, as a trace has it
abbrev pub reply_text : ObjReply → List ℕ
reply_text Opened = codes "opened"
reply_text Exists = codes "exists"
reply_text Closed = codes "closed"
reply_text NotEmpty = codes "notempty"
reply_text Done = codes "done"
reply_text Over = codes "over"
reply_text Short = codes "short"
reply_text Missing = codes "missing"
reply_text Added = codes "added"
reply_text Present = codes "present"
reply_text Removed = codes "removed"
reply_text Absent = codes "absent"
reply_text Yes = codes "yes"
reply_text No = codes "no"
reply_text (Is v) = with_number (codes "is") v

-- the reply is a word alone, with no value
abbrev pub IsWord : ObjReply → Type 0
IsWord (Is _) = ⊥
IsWord _ = Unit {0}

-- an operation and then its reply
abbrev pub done_text : ObjOp × ObjReply → List ℕ
done_text d = op_text d.0 ++ 32 ∷ reply_text d.1
