use Rattle.std.proofs.Common.{◌≡◌, map, take, sym, ap, ◌∙◌, take_all}
use Rattle.mlt_types.specs.declared.refusal.Refusal.TheVariants.{OutOfMemory}
use Rattle.mlt_object_kinds.specs.Bases.{empty_base}
use Rattle.mlt_script_serial.{specs.declared.outcome.Outcome.Outcome, specs.Serial.mark_of, proofs.Appends.no_mark, proofs.Appends.none_of_each, proofs.Appends.refusal_at}
use Rattle.mlt_script_serial.proofs.run.serial.Goals as goal

pub returns-in-Refused-clause-refusal : goal.returns-in-Refused-clause-refusal
returns-in-Refused-clause-refusal c =
    let items = c.as_slice-outcome-items.ensures in
    let o = c.outcome-item.result in
    refusal_at OutOfMemory c.in-Refused.refusal c.as_slice-outcome-items.result.now c.loop-outcome.outcome-index o c.loop-outcome-test.true (rw items c.in_ok-report.ensures.marks) (ap (λ (x : Outcome). x.end) (sym c.outcome-item.is) ∙ c.in-Refused.is)

pub returns-clause-run : goal.returns-clause-run
returns-clause-run c =
    let report = c.in_ok-report.report in
    let run = c.in_ok-report.ensures.run in
    let whole : take c.loop-outcome.outcome-index c.as_slice-outcome-items.result.now ≡ report.outcomes = take_all c.loop-outcome.outcome-index c.as_slice-outcome-items.result.now c.loop-outcome-test.false ∙ c.as_slice-outcome-items.ensures in
    let none : map mark_of report.outcomes ≡ map no_mark report.outcomes = rw whole at c.loop-outcome.invariant in
    (run.0, run.1, none ∙ none_of_each c.args.scripts.now empty_base report.base 0 run.0 report.outcomes run.1)
