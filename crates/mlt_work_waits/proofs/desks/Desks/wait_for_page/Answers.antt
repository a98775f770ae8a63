use Rattle.std.proofs.Common.{◌∙◌, ap, arith}
use Rattle.mlt_work_waits.{specs.Turns.waiting, specs.Waits.Waits, specs.Waits.released, specs.declared.wait.Awaited.Awaited, specs.declared.wait.Whose.Whose, proofs.Fewer.fewer_wait, proofs.InTurn.same_turns}
use Rattle.mlt_work_waits.proofs.desks.Desks.wait_for_page.Goals as goal

pub invariant_of-self : goal.invariant_of-self
invariant_of-self c =
    let before = c.args.self.now in
    let after = c.release.ensures.releases ∙ ap (released Awaited.Pages Whose.All) (c.join.ensures.stays c.if-join.false) in
    record {
      awake = omega (arith, ap waiting after, fewer_wait Awaited.Pages Whose.All before.waits, before.awake, c.join.ensures.count);
      turns = same_turns before.waits.objects _ before.queue _ (ap (λ (w : Waits). w.objects) after) c.join.ensures.queue before.turns;
    }
