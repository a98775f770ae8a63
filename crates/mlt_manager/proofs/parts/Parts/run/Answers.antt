use Rattle.std.proofs.Common.{refl, subst, sym}
use Rattle.mlt_manager.proofs.Names.{fields_of, LetsGoOn, Stops}
use Rattle.mlt_manager.{specs.Wholes.RunsToEnd, proofs.Chains.up_to_keeps, proofs.RunningOn.not_dropped, proofs.Stepping.may_cancel}
use Rattle.mlt_manager.proofs.parts.Parts.run.Goals as goal

pub cancel-requires : goal.cancel-requires
cancel-requires g c = record {
  is_open = may_cancel g.P.Pseudo.bits_of (fields_of c.run_on-answer.new.self) c.args.tx
      (up_to_keeps g.P.Pseudo.bits_of LetsGoOn c.args.tx Stops (fields_of c.args.self.now) (fields_of c.run_on-answer.new.self) c.run_on-answer.result c.requires.sound c.run_on-answer.ensures.steps) c.in-Waiting.ensures.pending;
}

pub cancel-requires-in-Blocked : goal.cancel-requires-in-Blocked
cancel-requires-in-Blocked g c = record {
  is_open = may_cancel g.P.Pseudo.bits_of (fields_of c.run_on-answer.new.self) c.args.tx
      (up_to_keeps g.P.Pseudo.bits_of LetsGoOn c.args.tx Stops (fields_of c.args.self.now) (fields_of c.run_on-answer.new.self) c.run_on-answer.result c.requires.sound c.run_on-answer.ensures.steps) c.in-Blocked.ensures.pending;
}

pub returns-in-Waiting-clause-runs : goal.returns-in-Waiting-clause-runs
returns-in-Waiting-clause-runs g c = subst (RunsToEnd g.P.Pseudo.bits_of (fields_of c.args.self.now) _ c.args.tx) (sym c.in-Waiting.is)
    (record {
      stopped = fields_of c.run_on-answer.new.self;
      steps = c.in-Waiting.ensures.steps;
      drops = record { pending = c.in-Waiting.ensures.pending; cancels = c.cancel.ensures.cancels; rest = refl };
    })

pub returns-in-Blocked-clause-runs : goal.returns-in-Blocked-clause-runs
returns-in-Blocked-clause-runs g c = subst (RunsToEnd g.P.Pseudo.bits_of (fields_of c.args.self.now) _ c.args.tx) (sym c.in-Blocked.is)
    (record {
      stopped = fields_of c.run_on-answer.new.self;
      steps = c.in-Blocked.ensures.steps;
      drops = record { pending = c.in-Blocked.ensures.pending; cancels = c.cancel-in-Blocked.ensures.cancels; rest = refl };
    })

pub returns-in_default-clause-runs : goal.returns-in_default-clause-runs
returns-in_default-clause-runs g c = record {
  stopped = fields_of c.run_on-answer.new.self;
  steps = c.run_on-answer.ensures.steps;
  drops = not_dropped c.run_on-answer.result (fields_of c.run_on-answer.new.self) c.args.tx c.in_default.not-Waiting c.in_default.not-Blocked;
}
