use Rattle.std.proofs.Common.{◌∙◌, sym}
use Rattle.mlt_work_waits.proofs.InTurn.{last_stands}
use Rattle.mlt_work_waits.proofs.desks.Desks.queues.Goals as goal

pub join-requires : goal.join-requires
join-requires c = last_stands c.args.thread.now.op c.args.held.now c.args.self.now.queue c.in-Some.holder (sym c.last_before.ensures ∙ c.in-Some.is)
