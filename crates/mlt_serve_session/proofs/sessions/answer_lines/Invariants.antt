-- So far into the text, by some turns.
use Rattle.std.proofs.Common.{◌≤◌, ◌+◌, ◌-◌, length}
use Rattle.mlt_serve_session.proofs.Names.{Reaches, front, talk_state}
use Rattle.mlt_serve_session.proofs.sessions.answer_lines.Given as goal

abbrev pub invariant-loop-notes : goal.invariant-loop-notes
invariant-loop-notes g l = record {
  reaches : Reaches g.D.Answering.moves l.client (talk_state l.client l.initial.notes l.initial.desk) (front l.text l.at) l.initial.out.items l.out.items (talk_state l.client l.notes l.desk);
  lines : l.notes.progress.lines ≤ l.initial.notes.progress.lines + l.at;
  commits : l.notes.progress.commits ≤ l.notes.progress.lines;
  begun : l.notes.progress.begun ≤ l.notes.progress.lines;
}

abbrev pub decreases-loop-notes : goal.decreases-loop-notes
decreases-loop-notes g l = length l.text - l.at
