use Rattle.mlt_work_desk.proofs.Trying.{cancel_waits_not, cancel_alone}
use Rattle.mlt_work_desk.proofs.lock_desk.LockDesk.cancel.Goals as goal

pub returns-clause-made : goal.returns-clause-made
returns-clause-made g c =
    let held = c.hold.ensures in
    cancel_alone _ _ _ _ (cancel_waits_not g.P.Pseudo.bits_of _ _ held.told) held.made
