use Rattle.std.proofs.Common.{refl}
use Rattle.mlt_work_waits.{specs.Queues.with_blocked, proofs.InTurn.same_turns, proofs.InTurn.turns_with}
use Rattle.mlt_work_waits.proofs.desks.Desks.turn_after.Goals as goal

pub invariant_of-self : goal.invariant_of-self
invariant_of-self c =
    let before = c.give_back.new.self in
    let thread = c.args.thread.now in
    record {
      awake = before.awake;
      turns = same_turns before.waits.objects _ (with_blocked thread.tx thread.op before.queue) _ refl c.push.ensures (turns_with before.waits.objects thread.tx thread.op before.queue before.turns);
    }
