use Rattle.std.proofs.Common.{ap, ◌∙◌, List}
use Rattle.mlt_script_serial.proofs.Names.{Nowhere, Line, no_values, questions, Ends, Ending}
use Rattle.mlt_script_serial.{specs.Runs.run, proofs.Trees.whole}
use Rattle.mlt_script_serial.proofs.cursor.Cursor.new.Goals as goal

pub returns : goal.returns
returns c =
    c.settled-at.ensures.same no_values c.ending-ending.result
    ∙ ap (λ (ls : List Line). run ls Nowhere no_values c.ending-ending.result) c.lines-lines.ensures.lines ∙ whole c.args.script.now.block no_values c.ending-ending.result ∙ ap (λ (e : Ending). questions c.args.script.now.block no_values (λ vs. Ends e)) c.ending-ending.ensures
