use Rattle.std.proofs.Common.{◌≡◌, ◌++◌, take, flat_map}
use Rattle.mlt_script_serial.specs.Texts.{reply_line}
use Rattle.mlt_script_serial.proofs.report.push_outcome.Given as goal

abbrev pub invariant-loop-done : goal.invariant-loop-done
invariant-loop-done l = l.text.items ≡ l.fn.text.items ++ flat_map reply_line (take l.done-index l.done-items)
