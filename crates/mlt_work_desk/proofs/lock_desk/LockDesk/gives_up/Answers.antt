use Rattle.std.proofs.Common.{ap}
use Rattle.mlt_work_desk.specs.LogHandles.{seen_by}
use Rattle.mlt_work_desk.proofs.Trying.{without_steps}
use Rattle.mlt_work_desk.proofs.lock_desk.LockDesk.gives_up.Goals as goal

pub returns-else-gives_up-clause-made : goal.returns-else-gives_up-clause-made
returns-else-gives_up-clause-made g c =
    without_steps _ _ _ (ap seen_by c.spends_last_try-gives_up.ensures.snapshot) c.spends_last_try-gives_up.ensures.events
