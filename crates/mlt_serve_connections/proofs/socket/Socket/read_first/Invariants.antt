use Rattle.std.proofs.Common.{◌≤◌, length}
use Rattle.mlt_serve_connections.proofs.socket.Socket.read_first.Given as goal

abbrev pub invariant-loop : goal.invariant-loop
invariant-loop g l = l.held ≤ length l.buf
