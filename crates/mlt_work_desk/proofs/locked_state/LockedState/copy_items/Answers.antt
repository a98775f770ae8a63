use Rattle.std.proofs.Common.{arith}
use Rattle.std.proofs.lemmas.Grind.{common_steps}
use Rattle.mlt_work_desk.proofs.locked_state.LockedState.copy_items.Goals as goal

pub returns : goal.returns
returns g c = record {
  kept = c.kept_history-history.result.now;
  whole = c.kept_history-history.ensures;
  added = grind (arith, common_steps);
}
