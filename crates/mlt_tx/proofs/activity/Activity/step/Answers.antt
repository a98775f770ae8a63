use Rattle.std.proofs.Common.{◌≡◌, Option, refl, sym, ap, subst, ◌∙◌}
use Rattle.mlt_tx.proofs.Names.{WalkContext, context_in, OperationFields, Answer, SharedState, At, Transaction, LeavesRoom, pending_after}
use Rattle.mlt_tx.{specs.declared.activity.ActivityState.ActivityState, specs.Activities.at_of, specs.Transactions.TellsAt, specs.Transactions.transaction_at, proofs.Pending.keeps_room, proofs.Pending.still_pending}
use Rattle.mlt_tx.proofs.activity.Activity.step.Goals as goal

pending_is : (s : ActivityState) (o : OperationFields) (i : Option OperationFields) → s ≡ ActivityState.Pending → at_of s o i ≡ At.Pending o
pending_is s o i is = ap (λ (s : ActivityState). at_of s o i) is

was_pending : (s : ActivityState) (o : OperationFields) (i : Option OperationFields) (whole : At) → at_of s o i ≡ whole → s ≡ ActivityState.Pending → At.Pending o ≡ whole
was_pending s o i whole view is = sym (pending_is s o i is) ∙ view

pub returns-in-Done-clause-tells : goal.returns-in-Done-clause-tells
returns-in-Done-clause-tells g c =
    let context : WalkContext = context_in g.P.Pseudo.bits_of c.args.environment.now c.args.subtx.now.tx in
    let after : Transaction = transaction_at c.step_on-answer.new.subtx c.step_on-answer.new.undo At.Idle in
    let new : SharedState = c.step_on-answer.new.shared in
    subst (λ (a : At). TellsAt a context (transaction_at c.args.subtx.now c.args.undo.now a) after c.args.shared.now new c.step_on-answer.result) (was_pending c.self.inside.state c.self.inside.operation c.self.inside.inverting c.args.self.now c.self.view_is c.in-Pending.is) (record {
      next = c.step_on-answer.new.operation;
      between = new;
      tells = c.step_on-answer.ensures.tells;
      now_at = sym (ap (λ (r : Answer). pending_after r c.step_on-answer.new.operation) c.in-Done.is);
      leaves = subst (λ (r : Answer). LeavesRoom r new new) (sym c.in-Done.is) refl;
    })

pub returns-in-Refused-clause-tells : goal.returns-in-Refused-clause-tells
returns-in-Refused-clause-tells g c =
    let context : WalkContext = context_in g.P.Pseudo.bits_of c.args.environment.now c.args.subtx.now.tx in
    let after : Transaction = transaction_at c.step_on-answer.new.subtx c.step_on-answer.new.undo At.Idle in
    let between : SharedState = c.step_on-answer.new.shared in
    let new : SharedState = record { alloc = between.alloc; pages = between.pages; objects = between.objects; history = c.release.new.self } in
    subst (λ (a : At). TellsAt a context (transaction_at c.args.subtx.now c.args.undo.now a) after c.args.shared.now new c.step_on-answer.result) (was_pending c.self.inside.state c.self.inside.operation c.self.inside.inverting c.args.self.now c.self.view_is c.in-Pending.is) (record {
      next = c.step_on-answer.new.operation;
      between = between;
      tells = c.step_on-answer.ensures.tells;
      now_at = sym (ap (λ (r : Answer). pending_after r c.step_on-answer.new.operation) c.in-Refused.is);
      leaves = subst (λ (r : Answer). LeavesRoom r between new) (sym c.in-Refused.is) (record { pages = refl; objects = refl; items = c.release.ensures.items; room = c.release.ensures.room });
    })

pub returns-in_default : goal.returns-in_default
returns-in_default g c =
    let context : WalkContext = context_in g.P.Pseudo.bits_of c.args.environment.now c.args.subtx.now.tx in
    let told : Answer = c.step_on-answer.result in
    let o : OperationFields = c.self.inside.operation in
    let next : OperationFields = c.step_on-answer.new.operation in
    let inverting : Option OperationFields = c.self.inside.inverting in
    let now : At = at_of c.self.inside.state next inverting in
    let after : Transaction = transaction_at c.step_on-answer.new.subtx c.step_on-answer.new.undo now in
    let new : SharedState = c.step_on-answer.new.shared in
    record {
      tells = subst (λ (a : At). TellsAt a context (transaction_at c.args.subtx.now c.args.undo.now a) after c.args.shared.now new told) (was_pending c.self.inside.state o inverting c.args.self.now c.self.view_is c.in-Pending.is) (record {
        next = next;
        between = new;
        tells = c.step_on-answer.ensures.tells;
        now_at = pending_is c.self.inside.state next inverting c.in-Pending.is ∙ still_pending told next c.in_default.not-Done c.in_default.not-Refused;
        leaves = keeps_room told new c.in_default.not-Refused;
      });
      handed = c.step_on-answer.ensures.handed;
    }
