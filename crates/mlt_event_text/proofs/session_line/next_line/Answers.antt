use Rattle.mlt_event_text.proofs.PlainLines.{next_begin, next_commit, next_op}
use Rattle.mlt_event_text.proofs.session_line.next_line.Goals as goal

pub returns-in-Some : goal.returns-in-Some
returns-in-Some c = next_op c.args.text.now c.in-Some.rest.now c.in-Some.op c.in-Some.ensures

pub returns-in-Some-after : goal.returns-in-Some-after
returns-in-Some-after c = next_commit c.args.text.now c.in-Some-after.rest.now c.in-Some-after.ensures.some

pub returns-in-Some-after-2 : goal.returns-in-Some-after-2
returns-in-Some-after-2 c = next_begin c.args.text.now c.in-Some-after-2.rest.now c.in-Some-after-2.ensures.some
