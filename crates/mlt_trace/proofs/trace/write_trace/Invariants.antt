-- The writer has a front of the text. It goes on with the piece, and then with the lines of the items that are left.
use Rattle.std.proofs.Common.{drop}
use Rattle.mlt_trace.proofs.Names.{trace_text}
use Rattle.mlt_trace.proofs.Pieces.{GoesOn}
use Rattle.mlt_trace.proofs.trace.write_trace.Given as goal

abbrev pub invariant-loop-item : goal.invariant-loop-item
invariant-loop-item g l =
    GoesOn (g.W.Write.contents l.initial.writer) (g.W.Write.contents l.writer) (trace_text l.items) l.piece.bytes (trace_text (drop l.item-index l.items))
