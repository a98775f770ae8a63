use Rattle.mlt_manager.proofs.Finding.{idle_is_not_undoing, pending_is_not_undoing}
use Rattle.mlt_manager.proofs.parts.Parts.undoing.Goals as goal

pub returns-in-Idle-clause-refusal : goal.returns-in-Idle-clause-refusal
returns-in-Idle-clause-refusal g c = idle_is_not_undoing c.args.self.now.txs c.args.tx c.in-Idle.field-0 c.in-Idle.ensures

pub returns-in-Pending-clause-refusal : goal.returns-in-Pending-clause-refusal
returns-in-Pending-clause-refusal g c = pending_is_not_undoing c.args.self.now.txs c.args.tx c.in-Pending.ensures
