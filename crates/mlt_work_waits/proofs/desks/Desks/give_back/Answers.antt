use Rattle.std.proofs.Common.{◌∙◌, refl, ap, arith}
use Rattle.mlt_work_waits.{specs.Queues.without, specs.Turns.waiting, specs.Waits.Waits, specs.Waits.others_in, specs.Waits.released, specs.declared.wait.Awaited.Awaited, specs.declared.wait.Whose.Whose, proofs.Fewer.fewer_wait, proofs.InTurn.holder_is_left, proofs.InTurn.same_turns, proofs.InTurn.turn_is_left}
use Rattle.mlt_work_waits.proofs.desks.Desks.give_back.Goals as goal

pub invariant_of-self : goal.invariant_of-self
invariant_of-self c =
    let tx = c.in-All.tx in
    let one = Whose.One tx in
    let before = c.args.self.now in
    let less = released Awaited.Objects one before.waits in
    let after = c.release-in-All.ensures.releases ∙ ap (released Awaited.Pages one) c.release.ensures.releases in
    record {
      awake = omega (arith, ap waiting after, fewer_wait Awaited.Pages one less, fewer_wait Awaited.Objects one before.waits, before.awake);
      turns = same_turns (others_in one before.waits.objects) _ (without tx before.queue) _ (ap (λ (w : Waits). w.objects) after) c.remove.ensures (holder_is_left tx before.waits.objects before.queue before.turns);
    }

pub invariant_of-self-in-Pages : goal.invariant_of-self-in-Pages
invariant_of-self-in-Pages c =
    let one = Whose.One c.in-Pages.tx in
    let before = c.args.self.now in
    record {
      awake = omega (arith, ap waiting c.release-in-Pages.ensures.releases, fewer_wait Awaited.Pages one before.waits, before.awake);
      turns = same_turns before.waits.objects _ before.queue _ (ap (λ (w : Waits). w.objects) c.release-in-Pages.ensures.releases) refl before.turns;
    }

pub invariant_of-self-in-Operation : goal.invariant_of-self-in-Operation
invariant_of-self-in-Operation c =
    let tx = c.in-Operation.tx in
    let turn = Whose.Turn tx in
    let before = c.args.self.now in
    let less = released Awaited.Objects turn before.waits in
    let after = c.release-in-Operation-2.ensures.releases ∙ ap (released Awaited.Pages (Whose.One tx)) c.release-in-Operation.ensures.releases in
    record {
      awake = omega (arith, ap waiting after, fewer_wait Awaited.Pages (Whose.One tx) less, fewer_wait Awaited.Objects turn before.waits, before.awake);
      turns = same_turns (others_in turn before.waits.objects) _ (without tx before.queue) _ (ap (λ (w : Waits). w.objects) after) c.remove-in-Operation.ensures (turn_is_left tx before.waits.objects before.queue before.turns);
    }
