use Rattle.std.proofs.Common.{◌≡◌, ◌≤◌, ◌-◌, length, drop}
use Rattle.mlt_script_serial.proofs.Names.{Ending, Variables}
use Rattle.mlt_script_serial.specs.Runs.{run, level}
use Rattle.mlt_script_serial.proofs.skipping.settled.Given as goal

abbrev pub invariant-loop-place : goal.invariant-loop-place
invariant-loop-place l = record {
  from : l.fn.at ≤ l.place;
  within : l.place ≤ length l.lines;
  deep : level l.skipping ≤ l.place;
  same : (vs : Variables) (end : Ending) → run (drop l.place l.lines) l.skipping vs end ≡ run (drop l.fn.at l.lines) l.fn.skipping vs end;
}

abbrev pub decreases-loop-place : goal.decreases-loop-place
decreases-loop-place l = length l.lines - l.place
