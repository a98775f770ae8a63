use Rattle.std.proofs.Common.{sym}
use Rattle.mlt_event_text.proofs.Cutting.{next_found, next_long, next_endless, next_none}
use Rattle.mlt_event_text.proofs.session_line.line_of_any_form.Goals as goal

pub returns-in-Some : goal.returns-in-Some
returns-in-Some c = next_long c.args.text.now c.in-Some.end (sym c.in-Some.ensures) c.if-end-gt-MOST_LINE_BYTES.true

pub returns-in-Some-2 : goal.returns-in-Some-2
returns-in-Some-2 c = next_found c.args.text.now c.in-Some.end c.command_in.result (sym c.in-Some.ensures) c.if-end-gt-MOST_LINE_BYTES.false c.command_in.ensures

pub returns-in-None : goal.returns-in-None
returns-in-None c = next_endless c.args.text.now (sym c.in-None.ensures) c.if-text-gt-MOST_LINE_BYTES.true

pub returns-in-None-2 : goal.returns-in-None-2
returns-in-None-2 c = next_none c.args.text.now (sym c.in-None.ensures) c.if-text-gt-MOST_LINE_BYTES.false
