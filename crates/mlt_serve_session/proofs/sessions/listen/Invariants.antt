-- The session goes on. Each read so far gave a byte.
use Rattle.std.proofs.Common.{◌≡◌, ◌≤◌, take, false}
use Rattle.mlt_serve_session.proofs.Names.{Listens, streams, talk_state}
use Rattle.mlt_serve_session.proofs.sessions.listen.Given as goal

abbrev pub invariant-rounds : goal.invariant-rounds
invariant-rounds g l = record {
  listens : Listens g.D.Answering.moves l.client (talk_state l.client l.initial.notes l.initial.desk) (streams (g.R.Read.remaining l.initial.reader) (g.R.Read.remaining l.reader)
      (g.W.Write.contents l.initial.writer) (g.W.Write.contents l.writer)) (take l.held l.buffer) l.total (talk_state l.client l.notes l.desk);
  held : l.held ≤ 200;
  total : l.total ≤ 16777216;
  read : l.counter ≤ l.total;
  commits : l.notes.progress.commits ≤ l.notes.progress.lines;
  begun : l.notes.progress.begun ≤ l.notes.progress.lines;
  going : l.notes.progress.over ≡ false;
}
