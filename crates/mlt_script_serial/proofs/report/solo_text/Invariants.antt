use Rattle.std.proofs.Common.{◌≡◌, take, flat_map}
use Rattle.mlt_script_serial.specs.Texts.{outcome_text}
use Rattle.mlt_script_serial.proofs.report.solo_text.Given as goal

abbrev pub invariant-loop-outcome : goal.invariant-loop-outcome
invariant-loop-outcome l = l.text.items ≡ flat_map outcome_text (take l.outcome-index l.outcomes)
