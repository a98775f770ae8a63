use Rattle.std.proofs.Common.{◌≡◌, map, take}
use Rattle.mlt_object_conflicts.specs.Sizes.{counts}
use Rattle.mlt_object_tables.specs.Words.{element_classes}
use Rattle.mlt_object_tables.proofs.matrix.size_row.Given as goal

abbrev pub invariant-loop-class : goal.invariant-loop-class
invariant-loop-class l = l.row.items ≡ map counts (take l.class-index element_classes)
