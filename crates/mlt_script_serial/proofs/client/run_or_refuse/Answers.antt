use Rattle.std.proofs.Common.{refl}
use Rattle.mlt_script_serial.proofs.Runs.{nothing_is_partial}
use Rattle.mlt_script_serial.proofs.client.run_or_refuse.Goals as goal

pub returns-in-Err-clause-ended : goal.returns-in-Err-clause-ended
returns-in-Err-clause-ended g c = nothing_is_partial c.args.script.now _ (rw (c.new-in-Err.ensures, c.new.ensures.items) refl)
