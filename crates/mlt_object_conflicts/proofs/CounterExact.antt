-- The table of counters is exact.
use Rattle.std.proofs.Common.{◌≡◌, false, refl, arith, MatchBool}
use Rattle.mlt_object_conflicts.proofs.Names.{CounterStep, IsLegalOnCounter, counter_after, CounterClass, counter_class, counter_marks, paired, BreaksAt, ClassesConflict, ClassesCommute}
use Rattle.mlt_object_conflicts.{specs.declared.counters.CounterClass.TheVariants.Counted, specs.declared.counters.CounterClass.TheVariants.Read, specs.CounterTable.counter_item, proofs.Rows.classes_commute}
use Rattle.mlt_object_conflicts.proofs.CounterPairs.{Legal, after, Fits, amount, counter_has_rows, counter_rows_commute}

pub counter_classes_commute : (p q : CounterClass) → counter_marks p q ≡ false → ClassesCommute CounterStep counter_class p q
counter_classes_commute p q free =
    classes_commute counter_class IsLegalOnCounter counter_after amount Fits Legal after counter_has_rows p q (counter_rows_commute p q free)

-- a value that is read behind an addition was not there before it
up_then_read : BreaksAt (paired CounterStep) 0 (counter_item Counted 1) (counter_item Read 1)
up_then_read = (1, 1, ((omega arith, omega arith), refl), ((omega arith, refl), refl), λ other h i. absurd (omega (arith, h.0.1)))

-- a value that was read before an addition is not there behind it
read_then_up : BreaksAt (paired CounterStep) 0 (counter_item Read 0) (counter_item Counted 1)
read_then_up = (
  0,
  1,
  ((omega arith, refl), refl),
  ((omega arith, omega arith), refl),
  λ other h i. let one : 1 ≡ other = h.1 in let none : other ≡ 0 = i.0.1 in absurd (omega arith),
)

abbrev Exact : CounterClass → CounterClass → Type 0
Exact p q = MatchBool (counter_marks p q) (ClassesConflict CounterStep counter_class p q) (ClassesCommute CounterStep counter_class p q)

pub counter_exact : (p q : CounterClass) → Exact p q
counter_exact Counted Counted = counter_classes_commute Counted Counted refl
counter_exact Counted Read = (0, counter_item Counted 1, counter_item Read 1, refl, refl, up_then_read)
counter_exact Read Counted = (0, counter_item Read 0, counter_item Counted 1, refl, refl, read_then_up)
counter_exact Read Read = counter_classes_commute Read Read refl
