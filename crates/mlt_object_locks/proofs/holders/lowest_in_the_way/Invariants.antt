use Rattle.std.proofs.Common.{take}
use Rattle.mlt_object_locks.proofs.Names.{IsLowestInTheWay}
use Rattle.mlt_object_locks.proofs.holders.lowest_in_the_way.Given as goal

-- the lowest of those that were seen
abbrev pub invariant-loop-holder : goal.invariant-loop-holder
invariant-loop-holder l = IsLowestInTheWay (take l.holder-index l.holders) l.tx l.against l.lowest
