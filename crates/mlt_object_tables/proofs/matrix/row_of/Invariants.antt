use Rattle.std.proofs.Common.{◌≡◌, map, take}
use Rattle.mlt_object_tables.proofs.matrix.row_of.Given as goal

abbrev pub invariant-loop-asked : goal.invariant-loop-asked
invariant-loop-asked g l = l.row.items ≡ map (g.K.Table.marks l.held) (take l.asked-index g.K.NamedTable.all_classes)
