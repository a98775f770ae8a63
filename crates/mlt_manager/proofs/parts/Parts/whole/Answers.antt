use Rattle.mlt_manager.proofs.Names.{fields_of}
use Rattle.mlt_manager.proofs.{Called.called_keeps, RunningOn.called_is_pending}
use Rattle.mlt_manager.proofs.parts.Parts.whole.Goals as goal

pub run-requires-clause-sound : goal.run-requires-clause-sound
run-requires-clause-sound g c =
    called_keeps g.P.Pseudo.bits_of (fields_of c.args.self.now) c.requires.sound c.args.tx (fields_of c.call.new.self) c.in_ok-call.ensures.answers.rest c.args.op c.in_ok-call.ensures.answers

pub run-requires-clause-pending : goal.run-requires-clause-pending
run-requires-clause-pending g c = called_is_pending (fields_of c.args.self.now) (fields_of c.call.new.self) c.args.tx c.args.op c.in_ok-call.ensures.answers
