use Rattle.std.proofs.Common.{◌≡◌, length}
use Rattle.mlt_serve.specs.Loads.{AreHeard}
use Rattle.mlt_serve.proofs.session_thread.SessionThread.load.Given as goal

abbrev pub invariant-loop : goal.invariant-loop
invariant-loop g l = record {
  heard : AreHeard 1 (g.B.BaseSource.given l.base) (g.K.Receipts.receipts l.self.outcomes);
  count : l.count ≡ length (g.B.BaseSource.given l.base);
}
