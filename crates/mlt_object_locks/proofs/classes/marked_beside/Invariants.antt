use Rattle.std.proofs.Common.{take}
use Rattle.mlt_object_locks.proofs.Names.{CLASSES}
use Rattle.mlt_object_locks.proofs.ClassLaws.{HasMarked}
use Rattle.mlt_object_locks.proofs.classes.marked_beside.Given as goal

-- those of the classes that were seen
abbrev pub invariant-loop-held : goal.invariant-loop-held
invariant-loop-held l = HasMarked l.set l.requested (take l.held-index CLASSES)
