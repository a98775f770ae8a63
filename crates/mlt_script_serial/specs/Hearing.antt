-- How a line of a script that asks goes on at a reply.
use Rattle.std.specs.Prelude.{List, Option, Some, None, if◌then◌else◌}
use Rattle.mlt_object_kinds.specs.declared.operation.ObjReply.{ObjReply}
use Rattle.mlt_script_serial.specs.{declared.cursor.Next.Next, declared.skipping.Skipping.Skipping, declared.skipping.Skipping.TheVariants.Nowhere, declared.skipping.Skipping.TheVariants.ToElse, Follows.Questions.Ends, Runs.run}
use Rattle.mlt_script.specs.declared.statement.{Line.Line, Ending.Ending, Ending.TheVariants.Abort}
use Rattle.mlt_script_serial.specs.Follows.{Questions, Variables, asked, asked_by, goes_on, set_by, is_wanted}

abbrev pub question : Line → Variables → Next
question (Line.Plain s) vs = Next.Op (asked_by vs s)
question (Line.If a w) vs = Next.Op (asked vs a)
question l vs = Next.Abort

-- up to where it is skipped at the reply; None where the script aborts
abbrev pub heard : Line → Variables → ObjReply → Option Skipping
heard (Line.Plain s) vs r = if goes_on vs s r then Some Nowhere else None
heard (Line.If a w) vs r = Some (if is_wanted vs w r then Nowhere else ToElse 0)
heard l vs r = Some Nowhere

-- the variables after the reply
abbrev pub heard_values : Line → Variables → ObjReply → Variables
heard_values (Line.Plain s) vs r = set_by vs s r
heard_values l vs r = vs

abbrev pub after_hearing : Option Skipping → List Line → Variables → Ending → Questions
after_hearing None ls vs end = Ends Abort
after_hearing (Some skipping) ls vs end = run ls skipping vs end
