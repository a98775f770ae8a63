-- What operations with their replies did to the presence of their keys.
use Rattle.std.specs.Prelude.{ℕ, ◌<◌, ◌^◌, ◌==◌, if◌then◌else◌, Option, Some, None, List, filter_map}
use Rattle.mlt_types.specs.Cells.{IsInRange, key_number}
use Rattle.mlt_object_kinds.specs.{declared.account.AccountOp.AccountOp, declared.account.AccountOp.TheVariants.Open, declared.account.AccountOp.TheVariants.Close, declared.account.AccountOp.TheVariants.Deposit, declared.account.AccountOp.TheVariants.Withdraw, declared.counter.CounterOp.CounterOp, declared.counter.CounterOp.TheVariants.Up, declared.counter.CounterOp.TheVariants.Down, declared.counter.CounterOp.TheVariants.Read, declared.element.ElementOp.ElementOp, declared.element.ElementOp.TheVariants.Add, declared.element.ElementOp.TheVariants.Remove, declared.operation.ObjOp.ObjOp, declared.operation.ObjOp.TheVariants.Account, declared.operation.ObjOp.TheVariants.Element, declared.operation.ObjOp.TheVariants.Counter, declared.operation.ObjOp.TheVariants.Size, declared.operation.ObjReply.ObjReply, Bases.Transcript, Operations.cell_of}
use Rattle.mlt_hash_ghosts.specs.Operations.{Presence, Added, Removed, Standing}

-- An account that was opened, or an element that was added, has a record since, and one that was closed or removed has
-- none. Counters keep the records that they once have, and so do sizes of sets.
abbrev pub account_presence : AccountOp → ObjReply → Option Presence
account_presence Open ObjReply.Opened = Some Added
account_presence Close ObjReply.Closed = Some Removed
account_presence _ _ = None

abbrev pub element_presence : ElementOp → ObjReply → Option Presence
element_presence Add ObjReply.Added = Some Added
element_presence Remove ObjReply.Removed = Some Removed
element_presence _ _ = None

-- what an operation that was told the reply did to the presence of its key, if it did anything to it
abbrev pub presence_of : ObjOp × ObjReply → Option Presence
presence_of (Account a op, reply) = account_presence op reply
presence_of (Element s e op, reply) = element_presence op reply
presence_of (Counter c op, reply) = None
presence_of (Size s, reply) = None

-- the number of the key that an operation is on
abbrev pub op_key : ObjOp → ℕ
op_key op = key_number (cell_of op)

-- what it did to the presence of this key
abbrev pub presence_at : ℕ → ObjOp × ObjReply → Option Presence
presence_at key item = if op_key item.0 == key then presence_of item else None

-- what the items of a transcript did to the presence of this key, in their order
abbrev pub presences_on : ℕ → Transcript → List Presence
presences_on key transcript = filter_map (presence_at key) transcript

-- the operations on keys' presence that stand, where these are the transcripts of open transactions
abbrev pub standing_of : (ℕ → Transcript) → Standing
standing_of transcripts owner key = presences_on key (transcripts owner)

-- the amount of an operation, or 0 where it has none
abbrev pub account_amount : AccountOp → ℕ
account_amount (Deposit n) = n
account_amount (Withdraw n) = n
account_amount _ = 0

abbrev pub counter_amount : CounterOp → ℕ
counter_amount (Up n) = n
counter_amount (Down n) = n
counter_amount Read = 0

abbrev pub amount_of : ObjOp → ℕ
amount_of (Account a op) = account_amount op
amount_of (Element s e op) = 0
amount_of (Counter c op) = counter_amount op
amount_of (Size s) = 0

-- what every operation of the program is: its cell is in range, and its amount has 64 bits
pub record IsOpInRange (op : ObjOp) : Type 0 where
  pub cell : IsInRange (cell_of op)
  pub amount : amount_of op < 2 ^ 64
