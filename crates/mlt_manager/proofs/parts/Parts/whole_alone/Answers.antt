use Rattle.std.proofs.Common.{Option, refl, subst}
use Rattle.mlt_manager.proofs.Names.{ObjReply, context_by, CallsOneFast, ManagerFields, fields_of}
use Rattle.mlt_manager.proofs.{Fast.called_fast, Fast.done_fast, Fast.may_call_fast, Called.called_keeps, RunningOn.called_is_pending}
use Rattle.mlt_manager.proofs.parts.Parts.whole_alone.Goals as goal

pub call_fast-requires : goal.call_fast-requires
call_fast-requires g c = record {
  is_open = may_call_fast g.P.Pseudo.bits_of (fields_of c.args.self.now) c.args.tx c.args.op c.requires.sound c.in_ok-may_call.ensures.may c.operation_is_in_range.ensures c.requires.alone;
}

pub run-requires-clause-sound : goal.run-requires-clause-sound
run-requires-clause-sound g c =
    called_keeps g.P.Pseudo.bits_of (fields_of c.args.self.now) c.requires.sound c.args.tx _ refl c.args.op
    (called_fast g.P.Pseudo.bits_of (fields_of c.args.self.now) c.args.tx c.args.op c.call_fast.new.self c.call_fast.new.shared c.in_ok-reply.field-0 c.in-None.is c.in_ok-may_call.ensures.may c.operation_is_in_range.ensures
    c.in_ok-reply.ensures.calls)

pub run-requires-clause-pending : goal.run-requires-clause-pending
run-requires-clause-pending g c =
    called_is_pending (fields_of c.args.self.now) _ c.args.tx c.args.op
    (called_fast g.P.Pseudo.bits_of (fields_of c.args.self.now) c.args.tx c.args.op c.call_fast.new.self c.call_fast.new.shared c.in_ok-reply.field-0 c.in-None.is c.in_ok-may_call.ensures.may c.operation_is_in_range.ensures
    c.in_ok-reply.ensures.calls)

pub returns-in-Some-clause-answers : goal.returns-in-Some-clause-answers
returns-in-Some-clause-answers g c =
    let m : ManagerFields _ = fields_of c.args.self.now in
    done_fast g.P.Pseudo.bits_of m c.args.tx c.args.op c.call_fast.new.self c.call_fast.new.shared c.in-Some.reply c.in_ok-may_call.ensures.may c.operation_is_in_range.ensures
    (subst (λ (told : Option ObjReply). CallsOneFast told (context_by g.P.Pseudo.bits_of m.root m.active) c.args.tx c.args.op m.txs c.call_fast.new.self m.shared c.call_fast.new.shared) c.in-Some.is
    c.in_ok-reply.ensures.calls)

pub returns-in-None-clause-answers : goal.returns-in-None-clause-answers
returns-in-None-clause-answers g c = record {
  called = _;
  calls =
      called_fast g.P.Pseudo.bits_of (fields_of c.args.self.now) c.args.tx c.args.op c.call_fast.new.self c.call_fast.new.shared c.in_ok-reply.field-0 c.in-None.is c.in_ok-may_call.ensures.may c.operation_is_in_range.ensures
      c.in_ok-reply.ensures.calls;
  runs = c.run.ensures.runs;
}
