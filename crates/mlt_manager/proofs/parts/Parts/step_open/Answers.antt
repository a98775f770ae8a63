use Rattle.mlt_manager.proofs.Names.{fields_of}
use Rattle.mlt_manager.proofs.Stepping.{may_step_here, stepped}
use Rattle.mlt_manager.proofs.parts.Parts.step_open.Goals as goal

pub step-answer-requires : goal.step-answer-requires
step-answer-requires g c = record { is_open = may_step_here g.P.Pseudo.bits_of (fields_of c.args.self.now) c.args.tx c.requires.sound c.requires.busy }

pub returns-clause-steps : goal.returns-clause-steps
returns-clause-steps g c =
    stepped g.P.Pseudo.bits_of (fields_of c.args.self.now) c.args.tx c.step-answer.new.shared c.step-answer.new.self c.leave_if_aborted.new.txs c.leave_if_aborted.new.active c.step-answer.result c.step-answer.ensures.steps c.leave_if_aborted.ensures.txs c.leave_if_aborted.ensures.active
