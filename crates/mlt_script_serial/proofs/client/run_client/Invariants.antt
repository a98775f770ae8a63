use Rattle.std.proofs.Common.{◌≡◌, ◌≤◌, length, take, vec_len, vec_capacity}
use Rattle.mlt_script_serial.specs.Clients.{AreOutcomes, AreRunsAt}
use Rattle.mlt_script_serial.proofs.client.run_client.Given as goal

abbrev pub invariant-loop-i : goal.invariant-loop-i
invariant-loop-i g l = record {
  outcomes : AreOutcomes 0 (take l.i l.scripts) l.outcomes.items;
  runs : AreRunsAt g.D.Answering.moves (take l.i l.scripts) l.fn.desk l.outcomes.items l.desk;
  one_each : vec_len l.outcomes ≡ l.i;
  room : length l.scripts ≤ vec_capacity l.outcomes;
}
