use Rattle.std.proofs.Common.{refl, sym}
use Rattle.mlt_hash_file.proofs.Names.{written_stays}
use Rattle.mlt_hash_file.proofs.{Alone.alone_after_step, Alone.step_keeps_before, AloneChanges.may_walk_alone, AlonePasses.addition_tells}
use Rattle.mlt_hash_file.proofs.runner.Runner.put.Goals as goal

pub insert-requires : goal.insert-requires
insert-requires g c κs within =
    let ready = may_walk_alone g.since g.P.Pseudo.bits_of c.args.root.now _ c.args.walk.now c.self.invariant.0 (rw (sym c.self.view_is) at c.requires.1.1.1) in
    (within, (refl, (record { walks = rw c.self.invariant.1 ready; exclusive = c.requires.1.0 }, c.requires.1.1.0)))

pub invariant_of-self : goal.invariant_of-self
invariant_of-self g c = (alone_after_step _ _ c.self.invariant.0 c.insert.ensures.leaves, c.self.invariant.1)

pub returns-clause-keeps : goal.returns-clause-keeps
returns-clause-keeps g c = rw (sym c.self.view_is) (step_keeps_before _ _ c.self.invariant.0 c.insert.ensures.leaves)

pub returns-clause-written : goal.returns-clause-written
returns-clause-written g c = written_stays g.since.written _ _ c.self.invariant.0.may c.insert.ensures.leaves.touches (rw (sym c.self.view_is) at c.requires.1.1.1.written)

pub returns-clause-tells : goal.returns-clause-tells
returns-clause-tells g c =
    rw (sym c.self.view_is) (addition_tells g.since g.P.Pseudo.bits_of c.args.root.now _ c.args.walk.now c.insert.new.self c.args.value c.self.invariant.0 (rw (sym c.self.view_is) at c.requires.1.1.1) c.requires.1.1.0 _ c.insert.result
    c.insert.ensures.leaves c.insert.ensures.writes (rw c.self.invariant.1 at c.insert.ensures.tells))
