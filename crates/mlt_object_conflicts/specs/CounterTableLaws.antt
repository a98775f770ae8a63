-- Each class of counters has an operation that is told its reply in some state.
use Rattle.std.proofs.Common.{refl, arith}
use Rattle.mlt_object_kinds.specs.Counters.{CounterStep}
use Rattle.mlt_object_conflicts.specs.{declared.counters.CounterClass.CounterClass, declared.counters.CounterClass.TheVariants.Counted, declared.counters.CounterClass.TheVariants.Read, CounterTable.counter_class, CounterTable.counter_item, Tables.HasLegalItem}

pub counter_legal_item : (class : CounterClass) → HasLegalItem CounterStep counter_class class
counter_legal_item Counted =
    (0, counter_item Counted 0, 0, refl, ((omega arith, omega arith), refl))
counter_legal_item Read = (0, counter_item Read 0, 0, refl, ((omega arith, refl), refl))
