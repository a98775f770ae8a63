use Rattle.std.proofs.Common.{inr}
use Rattle.mlt_script_serial.proofs.Runs.{ended_as, nothing_is_partial}
use Rattle.mlt_script_serial.proofs.desk_run.run_transaction.Goals as goal

pub returns-in-Err-clause-ended : goal.returns-in-Err-clause-ended
returns-in-Err-clause-ended g c = nothing_is_partial c.args.script.now c.args.done.now.items c.requires.empty

pub returns-in-Ok-clause-run : goal.returns-in-Ok-clause-run
returns-in-Ok-clause-run g c = rw c.tx.view_is (inr record {
  after_begin = c.begin.new.self;
  after_script = c.play-ended.new.desk;
  ended = c.play-ended.result;
  begun = c.in-Ok.ensures;
  plays = c.play-ended.ensures;
  closes = c.close-end.ensures;
})

pub returns-in-Ok-clause-ended : goal.returns-in-Ok-clause-ended
returns-in-Ok-clause-ended g c =
    ended_as g.D.Answering.moves c.args.script.now c.begin.new.self c.play-ended.new.desk _ c.play-ended.new.done.items c.play-ended.result _ c.close-end.new.desk c.play-ended.ensures c.close-end.ensures
