use Rattle.std.proofs.Common.{take, ◌≤◌, length}
use Rattle.mlt_object_kinds.specs.Bases.{Base, TranscriptLeads}
use Rattle.mlt_object_base.proofs.taking_back.take_back.Given as goal

-- what is left is the front of the list, and it leads to the base
abbrev pub invariant-loop-left : goal.invariant-loop-left
invariant-loop-left l = record {
  within : l.left ≤ length l.done;
  leads : (before : Base) → TranscriptLeads before l.done l.fn.base → TranscriptLeads before (take l.left l.done) l.base;
}

abbrev pub decreases-loop-left : goal.decreases-loop-left
decreases-loop-left l = l.left
