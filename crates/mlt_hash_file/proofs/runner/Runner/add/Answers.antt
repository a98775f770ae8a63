use Rattle.std.proofs.Common.{◌∙◌}
use Rattle.mlt_hash_file.proofs.Names.{nothing_before, context_alone}
use Rattle.mlt_hash_file.proofs.{AlonePasses.absent_here, AlonePasses.retell, AloneWalks.ready_at_start, AloneWalks.ready_on}
use Rattle.mlt_hash_file.proofs.runner.Runner.add.Goals as goal

pub find-requires : goal.find-requires
find-requires g c κs within = (within, ready_at_start g.P.Pseudo.bits_of c.args.root.now c.args.self.now c.args.walk.now c.requires.start c.requires.nothing c.requires.file)

pub put-requires : goal.put-requires
put-requires g c κs within =
    let absent = absent_here nothing_before g.P.Pseudo.bits_of c.args.root.now c.args.self.now _ c.args.walk.now _ _ c.find.ensures.alone c.find.ensures.keeps c.find.ensures.arrives c.requires.absent in
    let ready = ready_on nothing_before g.P.Pseudo.bits_of c.args.root.now c.args.self.now _ _ c.find.ensures.keeps c.find.ensures.written c.requires.file c.find.ensures.arrives.stands in
    (within, (c.find.ensures.arrives.same.mode ∙ c.requires.mode, (absent, ready)))

pub returns-clause-tells : goal.returns-clause-tells
returns-clause-tells g c =
    retell (context_alone nothing_before g.P.Pseudo.bits_of c.args.root.now c.args.self.now) c.put.new.self c.args.walk.now c.find.new.walk c.put.new.walk c.args.value c.put.result c.find.ensures.arrives.same
    (rw c.find.ensures.keeps.tx at c.put.ensures.tells)
