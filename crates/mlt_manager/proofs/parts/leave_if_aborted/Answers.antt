use Rattle.mlt_manager.proofs.Stepping.{stays, stays_open}
use Rattle.mlt_manager.proofs.parts.leave_if_aborted.Goals as goal

pub returns-in_default-clause-txs : goal.returns-in_default-clause-txs
returns-in_default-clause-txs c = stays c.args.told.now c.args.tx c.args.txs.now c.in_default.not-Aborted

pub returns-in_default-clause-active : goal.returns-in_default-clause-active
returns-in_default-clause-active c = stays_open c.args.told.now c.args.tx c.args.active.now c.in_default.not-Aborted
