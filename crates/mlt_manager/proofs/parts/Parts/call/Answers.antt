use Rattle.std.proofs.Common.{refl}
use Rattle.mlt_manager.proofs.Names.{fields_of}
use Rattle.mlt_manager.proofs.Refusing.{call_answers}
use Rattle.mlt_manager.proofs.parts.Parts.call.Goals as goal

pub returns-clause-answers : goal.returns-clause-answers
returns-clause-answers g c = call_answers (fields_of c.args.self.now) _ c.args.tx c.args.op c.try_call.result c.operation_is_in_range.ensures c.try_call.ensures.tries refl
