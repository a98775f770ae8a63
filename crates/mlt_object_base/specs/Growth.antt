-- Which operations take memory.
use Rattle.std.specs.Prelude.{◌≡◌, ◌≢◌, None, false}
use Rattle.mlt_object_kinds.specs.{declared.account.AccountOp.TheVariants.Open, declared.counter.CounterOp.CounterOp, declared.counter.CounterOp.TheVariants.Up, declared.counter.CounterOp.TheVariants.Down, declared.element.ElementOp.TheVariants.Add, declared.operation.ObjOp.ObjOp, declared.operation.ObjOp.TheVariants.Account, declared.operation.ObjOp.TheVariants.Element, declared.operation.ObjOp.TheVariants.Counter, Bases.Base, Bases.account_at, Bases.counter_at, Bases.element_at}

-- the operation takes a counter away from 0
abbrev pub LeavesZero : CounterOp → Type 0
LeavesZero (Up n) = n ≢ 0
LeavesZero (Down n) = n ≢ 0
LeavesZero _ = ⊥

-- the operation makes an account or an element that the base does not have, or takes a counter away from 0
abbrev pub MakesObject : Base → ObjOp → Type 0
MakesObject base (Account account Open) = account_at base account ≡ None
MakesObject base (Element set element Add) = element_at base set element ≡ false
MakesObject base (Counter counter op) = (counter_at base counter ≡ 0) × LeavesZero op
MakesObject base _ = ⊥
