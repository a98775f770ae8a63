use Rattle.std.proofs.Common.{length, take}
use Rattle.mlt_trace.specs.Lines.{AreLinesOf, KeepsToBlock}
use Rattle.mlt_trace.proofs.block.add_lines.Given as goal

-- it has the lines of the items that were gone through, and they keep to the block
abbrev pub invariant-loop-count : goal.invariant-loop-count
invariant-loop-count l =
    AreLinesOf (take l.count l.items) l.piece.bytes
    × KeepsToBlock l.room (length l.piece.bytes)
