-- The check goes on.
use Rattle.std.proofs.Common.{◌≤◌, take}
use Rattle.mlt_trace_check.proofs.Names.{GoesOn}
use Rattle.mlt_trace_check.proofs.long_check.go_over.Given as goal

abbrev pub invariant-pieces : goal.invariant-pieces
invariant-pieces g l = record {
  going : GoesOn l.progress (g.R.Read.remaining l.initial.reader) (g.R.Read.remaining l.reader) (g.W.Write.contents l.initial.writer) (g.W.Write.contents l.writer) (take l.held l.buffer);
  held : l.held ≤ 200;
}
