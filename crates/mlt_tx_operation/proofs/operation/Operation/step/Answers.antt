use Rattle.std.proofs.Common.{◌≡◌, ◌<◌, Option, None, Some, sym, ap, subst, ◌∙◌}
use Rattle.mlt_tx_operation.proofs.Names.{ObjReply, LocalState, local, view_of, WalkContext, context_in, steps_of_two_records, StepAnswer, IsRefused, TellsOfStep, Waits, MayOperate, OperationFields, on_one, on_two, WalkingFields, walking}
use Rattle.mlt_tx_two_records.proofs.TwoRecordSteps.{end_is_left, one_fewer_at_least}
use Rattle.mlt_tx_operation.proofs.{TwoRecordWalks.two_records_goes_on, TwoRecordWalks.two_records_refused, TwoRecordWalks.two_records_tells, TwoRecordWalks.two_records_waits, Operations.may_go_on, Operations.may_walk_on}
use Rattle.mlt_tx_operation.proofs.operation.Operation.step.Goals as goal

pub step_walk-requires-clause-ready : goal.step_walk-requires-clause-ready
step_walk-requires-clause-ready g c =
    let context : WalkContext = context_in g.P.Pseudo.bits_of c.args.environment.now c.args.subtx.now.tx in
    let o : WalkingFields = walking c.self.inside.request c.self.inside.reply c.in-One.walk in
    let is : c.args.self.now ≡ on_one o = sym ((λ i. record { request = c.self.inside.request; reply = c.self.inside.reply; access_path = sym c.in-One.is i }) ∙ c.self.view_is) in
    may_walk_on context _ o (subst (MayOperate context _) is c.requires.ready)

pub step-requires : goal.step-requires
step-requires g c =
    let context : WalkContext = context_in g.P.Pseudo.bits_of c.args.environment.now c.args.subtx.now.tx in
    let none : c.self.inside.reply ≡ None = ap (λ (o : OperationFields). o.reply) c.self.view_is ∙ c.requires.untold in
    let is : c.args.self.now ≡ on_two c.self.inside.request None c.in-Two.two_records = sym ((λ i. record { request = c.self.inside.request; reply = sym none i; access_path = sym c.in-Two.is i }) ∙ c.self.view_is) in
    record { ready = may_go_on context _ c.self.inside.request c.in-Two.two_records (subst (MayOperate context _) is c.requires.ready) }

pub returns-in-Going : goal.returns-in-Going
returns-in-Going g c =
    let context : WalkContext = context_in g.P.Pseudo.bits_of c.args.environment.now c.args.subtx.now.tx in
    let old : LocalState = local c.args.subtx.now c.args.pages.now in
    let new : LocalState = local c.step.new.subtx c.step.new.pages in
    let request = c.self.inside.request in
    let none : c.self.inside.reply ≡ None = ap (λ (o : OperationFields). o.reply) c.self.view_is ∙ c.requires.untold in
    let is : on_two request None c.in-Two.two_records ≡ c.args.self.now = (λ i. record { request = c.self.inside.request; reply = sym none i; access_path = sym c.in-Two.is i }) ∙ c.self.view_is in
    let fewer : steps_of_two_records context.root c.step.new.self (view_of new) < steps_of_two_records context.root c.in-Two.two_records (view_of old) =
    one_fewer_at_least context request old new c.in-Two.two_records c.step.new.self c.requires.ready.small c.in-Going.ensures.tells in
    let tells : TellsOfStep context old new (on_two request None c.in-Two.two_records) (on_two request None c.step.new.self) StepAnswer.Going =
    two_records_goes_on c.in-Two.two_records c.step.new.self context old new request c.in-Going.ensures.tells.0 c.in-Going.ensures.tells.1 fewer in
    let untold : TellsOfStep context old new (on_two request None c.in-Two.two_records) (on_two request c.self.inside.reply c.step.new.self) StepAnswer.Going =
    subst (λ (r : Option ObjReply). TellsOfStep context old new (on_two request None c.in-Two.two_records) (on_two request r c.step.new.self) StepAnswer.Going) (sym none) tells in
    record { tells = subst (λ (o : OperationFields). TellsOfStep context old new o (on_two request c.self.inside.reply c.step.new.self) StepAnswer.Going) is untold }

pub returns-in-Waiting : goal.returns-in-Waiting
returns-in-Waiting g c =
    let context : WalkContext = context_in g.P.Pseudo.bits_of c.args.environment.now c.args.subtx.now.tx in
    let old : LocalState = local c.args.subtx.now c.args.pages.now in
    let new : LocalState = local c.step.new.subtx c.step.new.pages in
    let request = c.self.inside.request in
    let none : c.self.inside.reply ≡ None = ap (λ (o : OperationFields). o.reply) c.self.view_is ∙ c.requires.untold in
    let is : on_two request None c.in-Two.two_records ≡ c.args.self.now = (λ i. record { request = c.self.inside.request; reply = sym none i; access_path = sym c.in-Two.is i }) ∙ c.self.view_is in
    let waits : Waits context old new (on_two request None c.in-Two.two_records) (on_two request None c.step.new.self) c.in-Waiting.page c.in-Waiting.by =
    two_records_waits c.in-Two.two_records c.step.new.self context old new request c.in-Waiting.page c.in-Waiting.by c.in-Waiting.ensures.tells in
    let untold : Waits context old new (on_two request None c.in-Two.two_records) (on_two request c.self.inside.reply c.step.new.self) c.in-Waiting.page c.in-Waiting.by =
    subst (λ (r : Option ObjReply). Waits context old new (on_two request None c.in-Two.two_records) (on_two request r c.step.new.self) c.in-Waiting.page c.in-Waiting.by) (sym none) waits in
    record { tells = subst (λ (o : OperationFields). Waits context old new o (on_two request c.self.inside.reply c.step.new.self) c.in-Waiting.page c.in-Waiting.by) is untold }

pub returns-in-Told : goal.returns-in-Told
returns-in-Told g c =
    let context : WalkContext = context_in g.P.Pseudo.bits_of c.args.environment.now c.args.subtx.now.tx in
    let old : LocalState = local c.args.subtx.now c.args.pages.now in
    let new : LocalState = local c.step.new.subtx c.step.new.pages in
    let request = c.self.inside.request in
    let none : c.self.inside.reply ≡ None = ap (λ (o : OperationFields). o.reply) c.self.view_is ∙ c.requires.untold in
    let is : on_two request None c.in-Two.two_records ≡ c.args.self.now = (λ i. record { request = c.self.inside.request; reply = sym none i; access_path = sym c.in-Two.is i }) ∙ c.self.view_is in
    let more : 1 < steps_of_two_records context.root c.in-Two.two_records (view_of old) = end_is_left context request c.in-Told.reply old new c.in-Two.two_records c.step.new.self c.in-Told.ensures.tells in
    let tells : TellsOfStep context old new (on_two request None c.in-Two.two_records) (on_two request (Some c.in-Told.reply) c.step.new.self) StepAnswer.Going =
    two_records_tells c.in-Two.two_records c.step.new.self context old new request c.in-Told.reply c.in-Told.ensures.tells.0 c.in-Told.ensures.tells.1 c.in-Told.ensures.tells.2 more in
    record { tells = subst (λ (o : OperationFields). TellsOfStep context old new o (on_two request (Some c.in-Told.reply) c.step.new.self) StepAnswer.Going) is tells }

pub returns-in-Refused : goal.returns-in-Refused
returns-in-Refused g c =
    let context : WalkContext = context_in g.P.Pseudo.bits_of c.args.environment.now c.args.subtx.now.tx in
    let old : LocalState = local c.args.subtx.now c.args.pages.now in
    let new : LocalState = local c.step.new.subtx c.step.new.pages in
    let request = c.self.inside.request in
    let none : c.self.inside.reply ≡ None = ap (λ (o : OperationFields). o.reply) c.self.view_is ∙ c.requires.untold in
    let is : on_two request None c.in-Two.two_records ≡ c.args.self.now = (λ i. record { request = c.self.inside.request; reply = sym none i; access_path = sym c.in-Two.is i }) ∙ c.self.view_is in
    let refused : IsRefused context old new (on_two request None c.in-Two.two_records) c.in-Refused.reason = two_records_refused c.in-Two.two_records context old new request c.in-Refused.reason c.in-Refused.ensures.tells in
    record { tells = subst (λ (o : OperationFields). IsRefused context old new o c.in-Refused.reason) is refused }
