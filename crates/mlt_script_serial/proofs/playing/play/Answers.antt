use Rattle.std.proofs.Common.{◌<◌, length, vec_capacity, arith}
use Rattle.mlt_script_serial.proofs.Names.{questions_of, questions_of_script}
use Rattle.mlt_script_serial.proofs.{Giving.gives_more, Transcripts.reaches_more, Transcripts.room_for_more}
use Rattle.mlt_script_serial.proofs.playing.play.Goals as goal

pub push_reserved-requires : goal.push_reserved-requires
push_reserved-requires g c =
    let l = c.loop-op in
    let long = l.done.ok in
    let short : length l.done.items < vec_capacity l.done = room_for_more (vec_capacity l.done) (questions_of_script c.args.script.now) l.done.items (questions_of l.cursor) c.in-Op.op l.invariant.room l.invariant.asked c.in-Op.ensures.next in
    omega (arith, long, short)

pub loop-op-preserved : goal.loop-op-preserved
loop-op-preserved g c =
    let l = c.loop-op in
    let op = c.in-Op.op in
    let reply = c.in_ok-reply.reply in
    rw (c.push_reserved.ensures.items, c.new.ensures, c.tell.ensures.questions) record {
      asked = reaches_more (questions_of_script c.args.script.now) l.done.items (questions_of l.cursor) op reply l.invariant.asked c.in-Op.ensures.next;
      gives = gives_more g.A.Answering.moves c.args.tx c.args.desk.now l.done.items l.desk c.operation.new.self op reply l.invariant.gives c.in_ok-reply.ensures;
      room = rw c.push_reserved.ensures.capacity l.invariant.room;
    }
