use Rattle.std.proofs.Common.{take}
use Rattle.mlt_object_locks.specs.Holders.{Covers}
use Rattle.mlt_object_locks.proofs.holders.all_of.Given as goal

-- those that were seen
abbrev pub invariant-loop-holder : goal.invariant-loop-holder
invariant-loop-holder l = Covers l.all (take l.holder-index l.holders)
