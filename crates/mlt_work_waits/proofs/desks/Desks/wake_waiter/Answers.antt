use Rattle.std.proofs.Common.{◌∙◌, refl, ap, arith}
use Rattle.mlt_work_waits.{specs.Turns.waiting, specs.Waits.Waits, specs.Waits.others_in, specs.Waits.released, specs.declared.wait.Awaited.Awaited, specs.declared.wait.Whose.Whose, proofs.Fewer.fewer_wait, proofs.InTurn.same_turns, proofs.InTurn.stay_in_turn}
use Rattle.mlt_work_waits.proofs.desks.Desks.wake_waiter.Goals as goal

pub invariant_of-self : goal.invariant_of-self
invariant_of-self c =
    let one = Whose.Of c.args.tx in
    let before = c.args.self.now in
    let less = released Awaited.Objects one before.waits in
    let after = c.release-2.ensures.releases ∙ ap (released Awaited.Pages one) c.release.ensures.releases in
    record {
      awake = omega (arith, ap waiting after, fewer_wait Awaited.Pages one less, fewer_wait Awaited.Objects one before.waits, before.awake);
      turns = same_turns (others_in one before.waits.objects) _ before.queue _ (ap (λ (w : Waits). w.objects) after) refl (stay_in_turn one before.waits.objects before.queue before.turns);
    }
