use Rattle.std.proofs.Common.{Some, subst, sym}
use Rattle.mlt_tx.proofs.Names.{LocalState, local, WalkContext, context_in, Answer, TellsOfStart}
use Rattle.mlt_tx.proofs.Inverses.{start_tells}
use Rattle.mlt_tx.proofs.stepping.begin_inverse.Goals as goal

pub returns-clause-tells : goal.returns-clause-tells
returns-clause-tells g c =
    let context : WalkContext = context_in g.P.Pseudo.bits_of c.args.environment.now c.args.subtx.now.tx in
    let old : LocalState = local c.args.subtx.now c.args.shared.now.pages in
    let new : LocalState = local c.step-told.new.subtx c.step-told.new.pages in
    subst (λ (a : Answer). TellsOfStart context c.args.last (Some c.step-told.new.self) old new a) (sym c.answer_of.ensures)
    (start_tells context old new c.args.last c.start-operation.result c.step-told.new.self c.step-told.result c.start-operation.ensures c.step-told.ensures.tells)
