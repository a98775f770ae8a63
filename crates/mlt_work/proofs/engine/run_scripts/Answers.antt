use Rattle.std.proofs.Common.{◌∙◌, Err, ap}
use Rattle.std.proofs.{KnownBytes.Keeps-refl, lemmas.Result.err_from_is_err_and}
use Rattle.mlt_text.proofs.Failing.{finished, unfinished, unread, unwritten}
use Rattle.mlt_script_serial.specs.{declared.report.ReportForm.TheVariants.Run, Texts.report_text}
use Rattle.mlt_work.proofs.Texts.{run_text}
use Rattle.mlt_work.proofs.engine.run_scripts.Goals as goal

pub returns-in-Ok-clause-text : goal.returns-in-Ok-clause-text
returns-in-Ok-clause-text g c =
    let input = c.in_ok-input.input.items in
    let report = c.in_ok-report.report in
    let text = run_text g.P.Pseudo.bits_of c.args.options.now c.args.pseudo c.as_slice.result.now input c.as_slice-2.result.now c.in_ok-parts.parts.items c.args.loaded.items c.in_ok-scripts.scripts.items report c.in_ok-report.manager
    c.as_slice.ensures.value (c.as_slice-2.ensures.value ∙ c.in_ok-clients.ensures) c.in_ok-scripts.ensures.spelled c.in_ok-parts.ensures.parts c.in_ok-report.ensures.ran in
    (input, report_text Run report.outcomes report.base, (c.in_ok-input.ensures.ok, text), c.in-Ok.ensures.ok)

pub returns-in_err-input-clause-failure : goal.returns-in_err-input-clause-failure
returns-in_err-input-clause-failure g c =
    let p = err_from_is_err_and c.from_residual.result c.from_residual.ensures.1 in
    unread _ _ _ _ _ c.from_residual.result c.in_err-input.ensures.bounded (rw (p.1, p.2) c.in_err-input.ensures.refusals) (Keeps-refl _)

pub returns-in_err-scripts-clause-failure : goal.returns-in_err-scripts-clause-failure
returns-in_err-scripts-clause-failure g c = unwritten _ _ _ _ _ c.from_residual-in_err-scripts.result c.in_ok-input.input.items c.in_ok-input.ensures.ok (Keeps-refl _)

pub returns-in_err-parts-clause-failure : goal.returns-in_err-parts-clause-failure
returns-in_err-parts-clause-failure g c = unwritten _ _ _ _ _ c.from_residual-in_err-parts.result c.in_ok-input.input.items c.in_ok-input.ensures.ok (Keeps-refl _)

pub returns-in_err-clients-clause-failure : goal.returns-in_err-clients-clause-failure
returns-in_err-clients-clause-failure g c = unwritten _ _ _ _ _ c.from_residual-in_err-clients.result c.in_ok-input.input.items c.in_ok-input.ensures.ok (Keeps-refl _)

pub returns-in_err-report-clause-failure : goal.returns-in_err-report-clause-failure
returns-in_err-report-clause-failure g c = unwritten _ _ _ _ _ c.from_residual-in_err-report.result c.in_ok-input.input.items c.in_ok-input.ensures.ok (Keeps-refl _)

pub returns-in-Ok-clause-failure : goal.returns-in-Ok-clause-failure
returns-in-Ok-clause-failure g c = finished _ _ _ _ _ c.in_ok-report.manager c.in_ok-input.input.items c.in_ok-input.ensures.ok

pub returns-clause-failure : goal.returns-clause-failure
returns-clause-failure g c =
    let input = c.in_ok-input.input.items in
    let report = c.in_ok-report.report in
    let text = run_text g.P.Pseudo.bits_of c.args.options.now c.args.pseudo c.as_slice.result.now input c.as_slice-2.result.now c.in_ok-parts.parts.items c.args.loaded.items c.in_ok-scripts.scripts.items report c.in_ok-report.manager
    c.as_slice.ensures.value (c.as_slice-2.ensures.value ∙ c.in_ok-clients.ensures) c.in_ok-scripts.ensures.spelled c.in_ok-parts.ensures.parts c.in_ok-report.ensures.ran in
    unfinished _ _ _ _ _ c.in-Err.refusal input (report_text Run report.outcomes report.base) c.in_ok-report.manager c.in_ok-input.ensures.ok text c.in-Err.ensures.refusal
    (λ memory. c.in-Err.ensures.memory (ap Err memory)) (λ io. c.in-Err.ensures.io (ap Err io))
