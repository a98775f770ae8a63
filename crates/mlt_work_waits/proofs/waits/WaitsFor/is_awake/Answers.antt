use Rattle.std.proofs.Common.{◌∙◌, not, ap}
use Rattle.mlt_work_waits.proofs.Found.{awake_if, waits_if}
use Rattle.mlt_work_waits.proofs.waits.WaitsFor.is_awake.Goals as goal

pub returns-clause-awake : goal.returns-clause-awake
returns-clause-awake c is = awake_if c.args.self.now c.args.tx c.holder_of.result c.holder_of.ensures (c.is_none.ensures ∙ ap not is)

pub returns-clause-waits : goal.returns-clause-waits
returns-clause-waits c is = waits_if c.args.self.now c.args.tx c.holder_of.result c.holder_of.ensures (c.is_none.ensures ∙ ap not is)
