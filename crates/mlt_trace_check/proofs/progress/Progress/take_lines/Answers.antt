use Rattle.mlt_trace_check.proofs.Names.{err_from_is_err_and, on_err_all, StopsIn}
use Rattle.mlt_trace_check.proofs.LongStepping.{goes_nowhere, goes_on, is_refused}
use Rattle.mlt_trace_check.proofs.progress.Progress.take_lines.Goals as goal

pub loop-said-init : goal.loop-said-init
loop-said-init c = goes_nowhere c.args.self.now c.args.text.now

pub returns-in_err-take_line-clause-refused : goal.returns-in_err-take_line-clause-refused
returns-in_err-take_line-clause-refused c =
    let p = err_from_is_err_and c.from_residual.result c.from_residual.ensures.1 in
    let l = c.loop-said in
    let f = c.in-Some.ensures.some in
    rw (p.1, p.2) (is_refused c.in_err-take_line.field-0.0 c.args.ended c.args.self.now l.self c.take_line.new.self c.args.text.now l.rest.now c.in-Some.after.now
    f.0 c.in-Some.said l.invariant f.1 f.2 f.3 c.in_err-take_line.ensures.line)

pub returns-in_err-take_line-clause-stopped : goal.returns-in_err-take_line-clause-stopped
returns-in_err-take_line-clause-stopped c =
    let l = c.loop-said in
    let stop : StopsIn c.args.self.now c.take_line.new.self c.args.text.now = (l.self, l.rest.now, l.invariant, c.in_err-take_line.ensures.err) in
    on_err_all _ _ stop

pub loop-said-preserved : goal.loop-said-preserved
loop-said-preserved c =
    let l = c.loop-said in
    let f = c.in-Some.ensures.some in
    goes_on c.args.self.now l.self c.take_line.new.self c.args.text.now l.rest.now c.in-Some.after.now f.0 c.in-Some.said l.invariant f.1 f.2 c.in_ok-take_line.ensures.line
