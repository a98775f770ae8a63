use Rattle.std.proofs.Common.{refl, sym}
use Rattle.mlt_hash_file.proofs.{Alone.alone_after_step, Alone.step_keeps_before, AloneChanges.change_alone, AloneChanges.may_walk_alone}
use Rattle.mlt_hash_file.proofs.runner.Runner.set.Goals as goal

pub set-requires-clause-ready : goal.set-requires-clause-ready
set-requires-clause-ready g c =
    let ready = may_walk_alone g.since g.P.Pseudo.bits_of c.args.root.now _ c.args.walk.now c.self.invariant.0 (rw (sym c.self.view_is) at c.requires.1.1.1) in
    (_, refl, record { walks = ready; exclusive = c.requires.1.0 })

pub invariant_of-self : goal.invariant_of-self
invariant_of-self g c = (alone_after_step _ _ c.self.invariant.0 c.set.ensures.leaves, c.self.invariant.1)

pub returns-clause-keeps : goal.returns-clause-keeps
returns-clause-keeps g c = rw (sym c.self.view_is) (step_keeps_before _ _ c.self.invariant.0 c.set.ensures.leaves)

pub returns-clause-tells : goal.returns-clause-tells
returns-clause-tells g c =
    let at = rw (sym c.self.view_is) at c.requires.1.1.1 in
    let ready = may_walk_alone g.since g.P.Pseudo.bits_of c.args.root.now _ c.args.walk.now c.self.invariant.0 at in
    rw (sym c.self.view_is) (change_alone g.since g.P.Pseudo.bits_of c.args.root.now _ c.args.walk.now c.self.invariant.0 at _ c.set.new.self c.args.value c.set.result c.set.ensures.leaves (c.set.ensures.tells _ refl (record { walks = ready; exclusive = c.requires.1.0 })))
