use Rattle.std.proofs.Common.{◌≡◌, ◌++◌, replicate}
use Rattle.mlt_trace.proofs.block.add_spaces.Given as goal

-- so many spaces were added
abbrev pub invariant-loop : goal.invariant-loop
invariant-loop l = l.piece.bytes ≡ l.initial.piece.bytes ++ replicate l.counter 32
