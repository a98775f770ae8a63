use Rattle.std.proofs.Common.{◌∙◌, sym}
use Rattle.mlt_object_kinds.specs.Bases.{empty_base}
use Rattle.mlt_script_serial.proofs.OneRun.{one_serial_run}
use Rattle.mlt_script_serial.proofs.run.scripts_and_marks_fix_the_run.Goals as goal

pub returns : goal.returns
returns c = λ scripts marks one other reached last h k. one_serial_run scripts empty_base reached last 0 h.0 k.0 one other (h.2 ∙ sym k.2) h.1 k.1
