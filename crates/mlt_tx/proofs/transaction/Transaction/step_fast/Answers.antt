use Rattle.std.proofs.Common.{ℕ, refl, subst}
use Rattle.mlt_tx.proofs.Names.{ObjOp, ObjReply, WalkContext, context_in, SharedState, Transaction}
use Rattle.mlt_tx.proofs.FastPath.{IsAdded, steps_fast}
use Rattle.mlt_tx.proofs.transaction.Transaction.step_fast.Goals as goal

pub returns-clause-done : goal.returns-clause-done
returns-clause-done g c =
    let context : WalkContext = context_in g.P.Pseudo.bits_of c.args.environment.now c.args.self.now.subtx.tx in
    let before : Transaction = c.args.self.now in
    let after : Transaction = record { subtx = before.subtx; undo = c.push.new.self; at = before.at } in
    let old : SharedState = c.args.shared.now in
    let new : SharedState = record { alloc = old.alloc; pages = record { store = c.carry_out.new.store; locks = old.pages.locks }; objects = c.ask.new.self; history = c.push-2.new.self } in
    let item : ObjOp × ObjReply = c.new-done.result in
    let added : IsAdded c.tx-tx.result item before after old new = record {
      free = c.in_default.ensures.free;
      held = c.in_default.ensures.granted;
      reserved = c.ask.ensures.others;
      entries = c.push.ensures.entries;
      items = c.push-2.ensures.items;
      room = c.push-2.ensures.room;
    } in
    steps_fast context c.args.op c.in_ok-plan.plan.reply before after old new _ c.requires.ready.fresh c.in_ok-plan.ensures.passes refl c.requires.ready.idle c.carry_out.ensures refl
    (subst (λ (i : ObjOp × ObjReply). IsAdded before.subtx.tx i before after old new) c.new-done.ensures (subst (λ (tx : ℕ). IsAdded tx item before after old new) c.tx-tx.ensures added))
