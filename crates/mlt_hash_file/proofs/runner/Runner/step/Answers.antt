use Rattle.std.proofs.Common.{refl, sym}
use Rattle.mlt_hash_file.proofs.Names.{written_stays}
use Rattle.mlt_hash_access.specs.LocalStates.{local}
use Rattle.mlt_hash_file.proofs.{Alone.alone_after_step, Alone.step_keeps_before, AloneChanges.may_walk_alone, AloneWalks.goes}
use Rattle.mlt_hash_file.proofs.runner.Runner.step.Goals as goal

pub advance-requires : goal.advance-requires
advance-requires g c κs within =
    let ready = may_walk_alone g.since g.P.Pseudo.bits_of c.args.root.now _ c.args.walk.now c.self.invariant.0 (rw (sym c.self.view_is) at c.requires.1.1) in
    (within, (refl, (c.requires.1.0, rw c.self.invariant.1 ready)))

pub invariant_of-self : goal.invariant_of-self
invariant_of-self g c = (alone_after_step _ _ c.self.invariant.0 c.advance.ensures.leaves, c.self.invariant.1)

pub returns-clause-keeps : goal.returns-clause-keeps
returns-clause-keeps g c = rw (sym c.self.view_is) (step_keeps_before _ _ c.self.invariant.0 c.advance.ensures.leaves)

pub returns-clause-written : goal.returns-clause-written
returns-clause-written g c = written_stays g.since.written _ _ c.self.invariant.0.may c.advance.ensures.leaves.touches (rw (sym c.self.view_is) at c.requires.1.1.written)

pub returns-clause-goes : goal.returns-clause-goes
returns-clause-goes g c = goes c.args.walk.now.phase _ (local c.self.inside.subtx c.self.inside.pages) (local c.advance.new.subtx c.advance.new.pages) c.args.walk.now c.advance.new.self c.advance.result c.self.invariant.0 c.advance.ensures.tells

pub returns-clause-alone : goal.returns-clause-alone
returns-clause-alone g c = (rw (sym c.self.view_is) c.self.invariant.0, alone_after_step _ _ c.self.invariant.0 c.advance.ensures.leaves)
