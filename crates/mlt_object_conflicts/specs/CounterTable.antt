-- The conflict table of counters.
use Rattle.std.specs.Prelude.{ℕ, Bool, true, false, Option, Some, None}
use Rattle.mlt_object_kinds.specs.declared.{counter.CounterOp.CounterOp, counter.CounterOp.TheVariants.Up, counter.CounterOp.TheVariants.Down, counter.CounterOp.TheVariants.Read, operation.ObjReply.ObjReply}
use Rattle.mlt_object_conflicts.specs.declared.counters.CounterClass.{CounterClass}

-- the class of an operation with a reply, None where the table has no such row
abbrev pub counter_class : CounterOp → ObjReply → Option CounterClass
counter_class (Up n) ObjReply.Done = Some CounterClass.Counted
counter_class (Down n) ObjReply.Done = Some CounterClass.Counted
counter_class Read (ObjReply.Is v) = Some CounterClass.Read
counter_class _ _ = None

-- the marked pairs, held first and then requested
abbrev pub counter_marks : CounterClass → CounterClass → Bool
counter_marks CounterClass.Counted CounterClass.Read = true
counter_marks CounterClass.Read CounterClass.Counted = true
counter_marks _ _ = false

-- an operation of the class with its reply, of this amount or value
abbrev pub counter_item : CounterClass → ℕ → CounterOp × ObjReply
counter_item CounterClass.Counted n = (Up n, ObjReply.Done)
counter_item CounterClass.Read n = (Read, ObjReply.Is n)
