use Rattle.std.proofs.Common.{vec_capacity}
use Rattle.mlt_script_serial.proofs.Names.{AsksAtMost, Reaches, questions_of_script, questions_of, Gives}
use Rattle.mlt_script_serial.specs.Cursors.{left_of}
use Rattle.mlt_script_serial.proofs.playing.play.Given as goal

abbrev pub invariant-loop-op : goal.invariant-loop-op
invariant-loop-op g l = record {
  asked : Reaches (questions_of_script l.script) l.done.items (questions_of l.cursor);
  gives : Gives g.A.Answering.moves l.tx l.fn.desk l.done.items l.desk;
  room : AsksAtMost (vec_capacity l.done) (questions_of_script l.script);
}

abbrev pub decreases-loop-op : goal.decreases-loop-op
decreases-loop-op g l = left_of l.cursor
