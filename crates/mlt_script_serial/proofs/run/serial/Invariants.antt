use Rattle.std.proofs.Common.{◌≡◌, map, take}
use Rattle.mlt_script_serial.{specs.Serial.mark_of, proofs.Appends.no_mark}
use Rattle.mlt_script_serial.proofs.run.serial.Given as goal

abbrev pub invariant-loop-outcome : goal.invariant-loop-outcome
invariant-loop-outcome l = map mark_of (take l.outcome-index l.outcome-items) ≡ map no_mark (take l.outcome-index l.outcome-items)
