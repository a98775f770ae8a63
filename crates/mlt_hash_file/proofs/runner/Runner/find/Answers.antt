use Rattle.mlt_hash_file.proofs.AloneWalks.{arrives, on_its_way, one_step_fewer, under_way_at}
use Rattle.mlt_hash_file.proofs.runner.Runner.find.Goals as goal

pub step-requires : goal.step-requires
step-requires g c κs within = (within, (under_way_at c.loop-found.walk.phase c.loop-found.invariant.more, c.loop-found.invariant.ready))

pub loop-found-preserved : goal.loop-found-preserved
loop-found-preserved g c = on_its_way g.since g.P.Pseudo.bits_of c.args.root.now c.args.self.now c.loop-found.self c.step.new.self c.args.walk.now c.loop-found.walk c.step.new.walk c.loop-found.invariant c.in-Going.ensures.keeps c.in-Going.ensures.written c.in-Going.ensures.tells

pub loop-found-smaller : goal.loop-found-smaller
loop-found-smaller g c = one_step_fewer g.since g.P.Pseudo.bits_of c.args.root.now c.args.self.now c.loop-found.self c.step.new.self c.args.walk.now c.loop-found.walk c.step.new.walk c.loop-found.invariant c.in-Going.ensures.tells

pub returns-in-Found-clause-arrives : goal.returns-in-Found-clause-arrives
returns-in-Found-clause-arrives g c = arrives g.since g.P.Pseudo.bits_of c.args.root.now c.args.self.now c.loop-found.self c.step.new.self c.args.walk.now c.loop-found.walk c.step.new.walk c.loop-found.invariant c.in-Found.found c.in-Found.ensures.tells
