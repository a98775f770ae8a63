use Rattle.mlt_manager.proofs.Finding.{idle_at}
use Rattle.mlt_manager.proofs.parts.Parts.pending.Goals as goal

pub returns-in-Idle-clause-refusal : goal.returns-in-Idle-clause-refusal
returns-in-Idle-clause-refusal g c = idle_at c.args.self.now.txs c.args.tx c.in-Idle.field-0 c.in-Idle.ensures
