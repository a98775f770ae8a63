use Rattle.mlt_work_desk.specs.{Holds.txs_begun, LogHandles.past_of, Prefixes.after_act}
use Rattle.mlt_work_desk.proofs.locked_state.LockedState.act.Given as goal

abbrev pub ghosts-see_act : goal.ghosts-see_act
ghosts-see_act g a = record {
  past = after_act (past_of a.writer.now) a.event.now a.told.now a.manager.now.shared.history.items;
  begun = txs_begun a.event.now a.told.now;
}
