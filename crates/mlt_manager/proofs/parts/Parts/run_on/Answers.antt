use Rattle.std.proofs.Common.{refl, subst, ◌∙◌}
use Rattle.mlt_manager.proofs.Names.{Answer, HasStepped, IsPending, fields_of, LetsGoOn}
use Rattle.mlt_manager.proofs.{Chains.none_taken, Finding.pending_is_busy}
use Rattle.mlt_manager.proofs.RunningOn.{fewer_on, is_small, on_by_one, on_ends, stands_in}
use Rattle.mlt_manager.proofs.parts.Parts.run_on.Goals as goal

pub loop-answer-init : goal.loop-answer-init
loop-answer-init g c = (none_taken g.P.Pseudo.bits_of LetsGoOn IsPending (fields_of c.args.self.now) c.args.tx c.requires.sound c.requires.pending, refl)

pub step_open-requires-clause-busy : goal.step_open-requires-clause-busy
step_open-requires-clause-busy g c = pending_is_busy c.loop-answer.self.txs c.args.tx c.loop-answer.invariant.0.is_at

pub loop-answer-preserved : goal.loop-answer-preserved
loop-answer-preserved g c = (
  on_by_one g.P.Pseudo.bits_of (fields_of c.args.self.now) (fields_of c.loop-answer.self) (fields_of c.step_open.new.self) c.args.tx c.loop-answer.invariant.0
      (subst (λ (a : Answer). HasStepped g.P.Pseudo.bits_of (fields_of c.loop-answer.self) (fields_of c.step_open.new.self) c.args.tx a) c.in-Going.is c.step_open.ensures.steps),
  c.step_open.ensures.handed ∙ c.loop-answer.invariant.1,
)

pub loop-answer-smaller : goal.loop-answer-smaller
loop-answer-smaller g c =
    fewer_on g.P.Pseudo.bits_of (fields_of c.loop-answer.self) (fields_of c.step_open.new.self) c.args.tx c.loop-answer.invariant.0.is_at
    (subst (λ (a : Answer). HasStepped g.P.Pseudo.bits_of (fields_of c.loop-answer.self) (fields_of c.step_open.new.self) c.args.tx a) c.in-Going.is c.step_open.ensures.steps)
    (is_small g.P.Pseudo.bits_of (fields_of c.loop-answer.self) c.loop-answer.invariant.0.manager)

pub returns-in_default-clause-steps : goal.returns-in_default-clause-steps
returns-in_default-clause-steps g c = on_ends g.P.Pseudo.bits_of (fields_of c.args.self.now) (fields_of c.loop-answer.self) (fields_of c.step_open.new.self) c.args.tx c.step_open.result c.loop-answer.invariant.0 c.step_open.ensures.steps c.in_default.not-Going

pub returns-in_default-clause-pending : goal.returns-in_default-clause-pending
returns-in_default-clause-pending g c = stands_in g.P.Pseudo.bits_of (fields_of c.loop-answer.self) (fields_of c.step_open.new.self) c.args.tx c.step_open.result c.loop-answer.invariant.0.is_at c.step_open.ensures.steps
