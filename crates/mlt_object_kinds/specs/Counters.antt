-- The table of counters. A state is the value, which is counted modulo 2^64.
use Rattle.std.specs.Prelude.{◌≡◌, ℕ, ◌+◌, ◌-◌, ◌<◌, ◌^◌, ◌%◌}
use Rattle.mlt_object_kinds.specs.declared.{counter.CounterOp.CounterOp, counter.CounterOp.TheVariants.Up, counter.CounterOp.TheVariants.Down, counter.CounterOp.TheVariants.Read, operation.ObjReply.ObjReply, operation.ObjReply.TheVariants.Done, operation.ObjReply.TheVariants.Is}

-- a value in range
abbrev pub IsCounter : ℕ → Type 0
IsCounter value = value < 2 ^ 64

-- in which states an operation gets the reply
abbrev pub IsLegalOnCounter : CounterOp → ObjReply → ℕ → Type 0
IsLegalOnCounter (Up n) Done s = (n < 2 ^ 64) × (s < 2 ^ 64)
IsLegalOnCounter (Down n) Done s = (n < 2 ^ 64) × (s < 2 ^ 64)
IsLegalOnCounter Read (Is v) s = (s < 2 ^ 64) × (s ≡ v)
IsLegalOnCounter _ _ _ = ⊥

-- the state after an operation that gets the reply
abbrev pub counter_after : CounterOp → ObjReply → ℕ → ℕ
counter_after (Up n) Done s = (s + n) % 2 ^ 64
counter_after (Down n) Done s = (s + (2 ^ 64 - n)) % 2 ^ 64
counter_after _ _ s = s

-- from the state before, the operation gets the reply and leads to the state after
abbrev pub CounterStep : ℕ → CounterOp → ObjReply → ℕ → Type 0
CounterStep before op reply after = IsLegalOnCounter op reply before × (counter_after op reply before ≡ after)
