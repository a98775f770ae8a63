use Rattle.std.proofs.Common.{◌<◌, ◌++◌, ap, subst, ◌∙◌, List, string_bytes}
use Rattle.mlt_script.specs.{declared.statement.Line.Line, Again.AreReadAgain, LineTexts.ending_text, Printing.as_line, Printing.begin_text, Printing.block_text, Printing.shown}
use Rattle.mlt_script.proofs.Printed.{shown_whole, script_again, script_joined, on_ok, on_any}
use Rattle.mlt_script.proofs.printer.push_script.Goals as goal

pub returns-clause-text : goal.returns-clause-text
returns-clause-text c =
    let s = c.args.script.now in
    let old = string_bytes c.args.text.now in
    let one = string_bytes c.push_begin.new.text in
    let two = string_bytes c.push_lines.new.text in
    let three = string_bytes c.push_ending.new.text in
    on_ok c.push_ending.result _ _
    (λ e.
    script_joined old (as_line (begin_text s.client)) (block_text s.block) (as_line (ending_text s.ending)) one two three
    (rw (← c.client.ensures.client) c.in_ok-push_begin.ensures)
    (c.in_ok-push_lines.ensures.text ∙ ap (λ t. one ++ t) (ap shown c.lines.ensures.lines ∙ shown_whole s.block))
    (rw (← c.ending.ensures) e))
    c.push_ending.ensures

pub returns-clause-again : goal.returns-clause-again
returns-clause-again c =
    let s = c.args.script.now in
    let small : s.client < 1000 = rw (← c.client.ensures.client) c.client.ensures.limit in
    on_any c.push_ending.result _ (script_again s (small, c.lines.ensures.longest, c.lines.ensures.nesting) (subst (λ (ls : List Line). AreReadAgain ls) c.lines.ensures.lines c.in_ok-push_lines.ensures.again))
