use Rattle.std.proofs.Common.{refl, subst}
use Rattle.mlt_tx.proofs.Names.{Running, context_in, StepsFast, called_with, Transaction}
use Rattle.mlt_tx.proofs.transaction.Transaction.call_fast.Goals as goal

pub returns-in-Some-clause-calls : goal.returns-in-Some-clause-calls
returns-in-Some-clause-calls g c =
    let room = c.in_ok-make_room.ensures.room in
    let called : Transaction = called_with c.args.op c.make_room.new.self in
    record {
      called = called;
      with_room = c.make_room.new.shared;
      calls = record { makes = record { subtx_kept = room.makes.subtx_kept; entries = room.makes.entries; pages = room.makes.pages; held = room.makes.held; others = room.makes.others; items = room.makes.items }; pending = refl; spare = room.spare; reserved = room.reserved; room = room.room };
      steps =
          subst (λ (r : Running). StepsFast (context_in g.P.Pseudo.bits_of c.args.environment.now r.tx) called c.step_fast.new.self c.make_room.new.shared c.step_fast.new.shared c.in-Some.reply) room.makes.subtx_kept
          c.in-Some.ensures.done;
    }
