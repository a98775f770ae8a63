use Rattle.std.proofs.Common.{◌≡◌, ◌<◌, ◌+◌, Some, None, length, drop, get_or, sym, ◌∙◌, ap, arith, le_refl}
use Rattle.mlt_script_serial.{proofs.Running.some_line, specs.Runs.run, proofs.Running.in_range, proofs.Running.tells, proofs.Running.run_out}
use Rattle.mlt_script_serial.proofs.Names.{Abort, Variables, heard, heard_values, after_hearing}
use Rattle.mlt_script_serial.proofs.cursor.Cursor.tell.Goals as goal

pub bounds-self-self : goal.bounds-self-self
bounds-self-self c = let s = c.args.self.now in in_range s.lines.now s.at s.variables s.ending c.requires

pub settled-self-requires-clause-at : goal.settled-self-requires-clause-at
settled-self-requires-clause-at c =
    let s = c.args.self.now in
    let h : s.at < length s.lines.now = in_range s.lines.now s.at s.variables s.ending c.requires in
    omega (arith, h)

pub returns-in-Some-clause-questions : goal.returns-in-Some-clause-questions
returns-in-Some-clause-questions c =
    let s = c.args.self.now in
    let h : s.at < length s.lines.now = in_range s.lines.now s.at s.variables s.ending c.requires in
    let m : heard (get_or s.lines.now s.at some_line) s.variables c.args.reply ≡ Some c.in-Some.skipping = sym c.hear.ensures.skipping ∙ c.in-Some.is in
    c.settled-self.ensures.same c.hear.new.variables s.ending
    ∙ ap (λ (vs : Variables). run (drop (s.at + 1) s.lines.now) c.in-Some.skipping vs s.ending) c.hear.ensures.variables
    ∙ sym (ap (λ o. after_hearing o (drop (s.at + 1) s.lines.now) (heard_values (get_or s.lines.now s.at some_line) s.variables c.args.reply) s.ending) m)
    ∙ sym (tells s.lines.now s.at some_line s.variables s.ending c.args.reply h s.settled)

pub returns-in-None-clause-questions : goal.returns-in-None-clause-questions
returns-in-None-clause-questions c =
    let s = c.args.self.now in
    let h : s.at < length s.lines.now = in_range s.lines.now s.at s.variables s.ending c.requires in
    let m : heard (get_or s.lines.now s.at some_line) s.variables c.args.reply ≡ None = sym c.hear.ensures.skipping ∙ c.in-None.is in
    run_out s.lines.now (length s.lines.now) c.hear.new.variables Abort (le_refl (length s.lines.now))
    ∙ sym (ap (λ o. after_hearing o (drop (s.at + 1) s.lines.now) (heard_values (get_or s.lines.now s.at some_line) s.variables c.args.reply) s.ending) m)
    ∙ sym (tells s.lines.now s.at some_line s.variables s.ending c.args.reply h s.settled)
