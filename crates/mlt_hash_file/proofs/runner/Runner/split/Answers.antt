use Rattle.mlt_hash_file.proofs.AloneSplits.{fewer_steps, next_step, splits_end, splits_on}
use Rattle.mlt_hash_file.proofs.runner.Runner.split.Goals as goal

pub step-requires : goal.step-requires
step-requires g c κs within = (within, (next_step c.loop-answer.walk.phase c.loop-answer.invariant.adds, c.loop-answer.invariant.ready))

pub loop-answer-preserved : goal.loop-answer-preserved
loop-answer-preserved g c = splits_on g.since g.P.Pseudo.bits_of c.args.root.now c.args.self.now c.loop-answer.self c.step.new.self c.args.walk.now c.loop-answer.walk c.step.new.walk c.in-Going.ensures.alone c.loop-answer.invariant c.in-Going.ensures.keeps c.in-Going.ensures.written c.in-Going.ensures.tells

pub loop-answer-smaller : goal.loop-answer-smaller
loop-answer-smaller g c = fewer_steps g.since g.P.Pseudo.bits_of c.args.root.now c.args.self.now c.loop-answer.self c.step.new.self c.args.walk.now c.loop-answer.walk c.step.new.walk c.in-Going.ensures.alone c.loop-answer.invariant c.in-Going.ensures.keeps c.in-Going.ensures.written c.in-Going.ensures.tells

pub returns-in_default-clause-tells : goal.returns-in_default-clause-tells
returns-in_default-clause-tells g c = splits_end g.since g.P.Pseudo.bits_of c.args.root.now c.args.self.now c.loop-answer.self c.step.new.self c.args.walk.now c.loop-answer.walk c.step.new.walk c.step.ensures.alone c.loop-answer.invariant c.step.ensures.keeps c.step.ensures.written c.step.result c.in_default.not-Going c.step.ensures.goes c.step.ensures.tells
