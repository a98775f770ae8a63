use Rattle.std.proofs.Common.{inl}
use Rattle.mlt_trace_check.proofs.Names.{on_err_all}
use Rattle.mlt_trace_check.proofs.Saying.{answers, fails, nothing_said}
use Rattle.mlt_trace_check.proofs.long_check.check_pieces.Goals as goal

pub returns-in_err-buffer-clause-failure : goal.returns-in_err-buffer-clause-failure
returns-in_err-buffer-clause-failure g c = on_err_all _ _ (inl (nothing_said (g.R.Read.remaining c.args.reader.now) (g.W.Write.contents c.args.writer.now)))

pub returns-clause-answer : goal.returns-clause-answer
returns-clause-answer g c =
    answers c.write_base.result c.in_ok-progress.progress _ _ _ _ _ c.in_ok-progress.ensures.ok c.write_base.ensures.ok c.write_base.ensures.refusal

pub returns-clause-failure : goal.returns-clause-failure
returns-clause-failure g c =
    fails c.write_base.result c.in_ok-progress.progress _ _ _ _ _ c.in_ok-progress.ensures.ok c.write_base.ensures.memory c.write_base.ensures.io c.write_base.ensures.refusal
