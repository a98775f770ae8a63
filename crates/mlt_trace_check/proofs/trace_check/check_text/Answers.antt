use Rattle.std.proofs.Common.{refl, ◌∙◌}
use Rattle.mlt_trace_check.proofs.Names.{err_from_is_err_and}
use Rattle.mlt_trace_check.proofs.{Progressing.went_nowhere, LongStepping.goes_to_end, LongStepping.refuses_first}
use Rattle.mlt_trace_check.proofs.trace_check.check_text.Goals as goal

pub returns-in_err-take_lines : goal.returns-in_err-take_lines
returns-in_err-take_lines c =
    let p = err_from_is_err_and c.from_residual.result c.from_residual.ensures.1 in
    let start = c.new-progress.ensures in
    rw (p.1, p.2) (refuses_first c.in_err-take_lines.field-0.0 c.new-progress.result c.args.text.now (went_nowhere c.new-progress.result c.args.text.now start.checker start.line start.txs) c.in_err-take_lines.ensures.refused)

pub returns : goal.returns
returns c =
    let start = c.new-progress.ensures in
    let k = c.in_ok-take_lines.ensures.ok in
    let done = c.in_ok-take_lines.ensures.done refl in
    let is = goes_to_end c.new-progress.result c.take_lines.new.self c.args.text.now k.0 (k.1 ∙ done) (went_nowhere c.new-progress.result c.args.text.now start.checker start.line start.txs) k.2 in
    (_, _, is, (refl, refl))
