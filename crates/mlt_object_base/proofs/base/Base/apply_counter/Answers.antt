use Rattle.std.proofs.Common.{refl}
use Rattle.mlt_object_base.proofs.Steps.{step_to_counter}
use Rattle.mlt_object_base.proofs.base.Base.apply_counter.Goals as goal

pub returns-clause-step : goal.returns-clause-step
returns-clause-step c =
    let done = c.in_ok-reply.ensures.done in
    step_to_counter c.self.inside.accounts c.self.inside.elements c.self.inside.counters c.apply.new.self c.args.self.now c.args.counter c.args.op c.in_ok-reply.reply _ done.0 c.self.view_is done.2 refl done.1
