use Rattle.std.proofs.Common.{refl}
use Rattle.mlt_object_base.proofs.Steps.{step_to_account}
use Rattle.mlt_object_base.proofs.base.Base.apply_account.Goals as goal

pub returns-clause-step : goal.returns-clause-step
returns-clause-step c =
    let done = c.in_ok-reply.ensures.done in
    step_to_account c.self.inside.accounts c.apply.new.self c.self.inside.elements c.self.inside.counters c.args.self.now c.args.account c.args.op c.in_ok-reply.reply _ done.0 c.self.view_is done.2 refl done.1
