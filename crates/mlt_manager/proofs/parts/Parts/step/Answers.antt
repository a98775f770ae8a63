use Rattle.std.proofs.Common.{refl}
use Rattle.mlt_manager.proofs.Names.{err_from_is_err_and, fields_of}
use Rattle.mlt_manager.proofs.Stepping.{may_step_one, step_answers, stepped}
use Rattle.mlt_manager.proofs.parts.Parts.step.Goals as goal

pub try_step-requires : goal.try_step-requires
try_step-requires g c = record { may = may_step_one g.P.Pseudo.bits_of (fields_of c.args.self.now) c.args.tx c.requires.sound }

pub returns-in_err-answer-clause-answers : goal.returns-in_err-answer-clause-answers
returns-in_err-answer-clause-answers g c =
    let p = err_from_is_err_and c.from_residual.result c.from_residual.ensures.1 in
    rw (p.1, p.2) (step_answers g.P.Pseudo.bits_of (fields_of c.args.self.now) _ c.args.tx c.try_step.new.shared c.try_step.new.self c.in_err-answer.field-0.0 refl c.in_err-answer.ensures.tries)

pub returns-clause-answers : goal.returns-clause-answers
returns-clause-answers g c =
    stepped g.P.Pseudo.bits_of (fields_of c.args.self.now) c.args.tx c.try_step.new.shared c.try_step.new.self c.leave_if_aborted.new.txs c.leave_if_aborted.new.active c.in_ok-answer.answer c.in_ok-answer.ensures.tries c.leave_if_aborted.ensures.txs c.leave_if_aborted.ensures.active
