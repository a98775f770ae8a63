-- What operations are told, and what they make of a base
use Rattle.std.specs.Prelude.{◌≡◌, ◌==◌, ℕ, ◌+◌, ◌-◌, ◌<◌, ◌≤◌, ◌^◌, ◌%◌, Bool, true, false, Option, None, Some, is_some, if◌then◌else◌, nat_le, unwrap_or}
use Rattle.std.specs.FinMap as map
use Rattle.mlt_types.specs.Maps.{with_entry}
use Rattle.mlt_object_kinds.specs.{Accounts.max_balance, Bases.Base, Bases.counter_at, Bases.counter_value, Bases.element_at, Bases.size_at, Packing.amount_of}
use Rattle.mlt_object_kinds.specs.declared.{account.AccountOp.AccountOp, element.ElementOp.ElementOp, counter.CounterOp.CounterOp, operation.ObjOp.ObjOp, operation.ObjReply.ObjReply}
use Rattle.mlt_object_kinds.specs.declared.{account.AccountOp.TheVariants.Open, account.AccountOp.TheVariants.Close, account.AccountOp.TheVariants.Deposit, account.AccountOp.TheVariants.Withdraw, account.AccountOp.TheVariants.Balance}
use Rattle.mlt_object_kinds.specs.declared.{element.ElementOp.TheVariants.Add, element.ElementOp.TheVariants.Remove, element.ElementOp.TheVariants.Has, counter.CounterOp.TheVariants.Up, counter.CounterOp.TheVariants.Down, counter.CounterOp.TheVariants.Read}
use Rattle.mlt_object_kinds.specs.declared.{operation.ObjOp.TheVariants.Account, operation.ObjOp.TheVariants.Element, operation.ObjOp.TheVariants.Counter, operation.ObjOp.TheVariants.Size}
use Rattle.mlt_object_kinds.specs.declared.operation.ObjReply.TheVariants.{Opened, Exists, Closed, NotEmpty, Done, Over, Short, Missing, Added, Present, Removed, Absent, Yes, No, Is}

-- the reply by the balance, None where there is no account, and the balance then
abbrev pub account : AccountOp → Option ℕ → ObjReply × Option ℕ
account Open None = (Opened, Some 0)
account op None = (Missing, None)
account Open (Some b) = (Exists, Some b)
account Close (Some b) = if b == 0 then (Closed, None) else (NotEmpty, Some b)
account (Deposit n) (Some b) = if nat_le (b + n) max_balance then (Done, Some (b + n)) else (Over, Some b)
account (Withdraw n) (Some b) = if nat_le n b then (Done, Some (b - n)) else (Short, Some b)
account Balance (Some b) = (Is b, Some b)

-- the same of an element, by whether it is in its set
abbrev pub element : ElementOp → Bool → ObjReply × Bool
element Add e = (if e then Present else Added, true)
element Remove e = (if e then Removed else Absent, false)
element Has e = (if e then Yes else No, e)

-- the same of a counter, by its value
abbrev pub counter : CounterOp → ℕ → ObjReply × ℕ
counter (Up n) c = (Done, (c + n) % 2 ^ 64)
counter (Down n) c = (Done, (c + (2 ^ 64 - n)) % 2 ^ 64)
counter Read c = (Is c, c)

-- in the base the operation gets the reply, and makes the other base of it; amounts, balances and values have their bounds
abbrev pub Does : Base → ObjOp × ObjReply → Base → Type 0
Does b (Account a op, reply) d =
    (amount_of (Account a op) < 2 ^ 64) × (unwrap_or (map.get b.accounts a) 0 ≤ max_balance) × (kept : Option ℕ)
    × (account op (map.get b.accounts a) ≡ (reply, kept)) × (d ≡ record b { accounts = with_entry b.accounts a kept })
Does b (Element s e op, reply) d = (kept : Option (Unit {0}))
    × (element op (element_at b s e) ≡ (reply, is_some kept)) × (d ≡ record b { elements = with_entry b.elements (s, e) kept })
Does b (Counter c op, reply) d = (amount_of (Counter c op) < 2 ^ 64) × (counter_at b c < 2 ^ 64) × (kept : Option ℕ)
    × (counter op (counter_at b c) ≡ (reply, counter_value kept)) × (d ≡ record b { counters = with_entry b.counters c kept })
Does b (Size s, reply) d = (reply ≡ Is (size_at b s)) × (d ≡ b)
