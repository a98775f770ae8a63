use Rattle.mlt_work_desk.specs.LogHandles.{past_of}
use Rattle.mlt_work_desk.proofs.unlocked.Unlocked.close.Goals as goal

pub returns-clause-made_by : goal.returns-clause-made_by
returns-clause-made_by g c = ((past_of c.args.self.state.writer).acts, c.args.self.state.made_by)
