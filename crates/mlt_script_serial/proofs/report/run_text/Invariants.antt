use Rattle.std.proofs.Common.{◌≡◌, ◌++◌, take, flat_map}
use Rattle.mlt_script_serial.specs.Texts.{outcome_text, script_line}
use Rattle.mlt_script_serial.proofs.report.run_text.Given as goal

abbrev pub invariant-loop-outcome : goal.invariant-loop-outcome
invariant-loop-outcome l = l.text.items ≡ flat_map (λ o. script_line o ++ outcome_text o) (take l.outcome-index l.outcomes)
