use Rattle.std.proofs.Common.{sym, subst, ◌∙◌}
use Rattle.mlt_script_serial.proofs.Names.{Next, questions_of, Questions, IsNext}
use Rattle.mlt_script_serial.proofs.Running.{some_line, next_line, run_out, asks}
use Rattle.mlt_script_serial.proofs.cursor.Cursor.next.Goals as goal

pub returns-then-self-clause-next : goal.returns-then-self-clause-next
returns-then-self-clause-next c =
    let s = c.args.self.now in
    rw c.question_of.ensures (next_line s.lines.now s.at some_line s.variables s.ending c.if-self.true s.settled)

pub returns-then-self-clause-asking : goal.returns-then-self-clause-asking
returns-then-self-clause-asking c = λ op e.
    let s = c.args.self.now in
    let n = next_line s.lines.now s.at some_line s.variables s.ending c.if-self.true s.settled in
    asks op (questions_of s) (subst (λ (x : Next). IsNext x (questions_of s)) (sym c.question_of.ensures ∙ e) n)

pub returns-in-Commit-clause-next : goal.returns-in-Commit-clause-next
returns-in-Commit-clause-next c =
    let s = c.args.self.now in
    subst (λ (p : Questions). IsNext Next.Commit p) (sym (run_out s.lines.now s.at s.variables s.ending c.if-self.false)) c.in-Commit.is

pub returns-in-Abort-clause-next : goal.returns-in-Abort-clause-next
returns-in-Abort-clause-next c =
    let s = c.args.self.now in
    subst (λ (p : Questions). IsNext Next.Abort p) (sym (run_out s.lines.now s.at s.variables s.ending c.if-self.false)) c.in-Abort.is
