use Rattle.std.proofs.Common.{◌≡◌, ◌+◌, Err, Ok, subst, rules, ◌∙◌}
use Rattle.mlt_trace_check.proofs.Names.{err_from_is_err_and, Takes}
use Rattle.mlt_trace_check.proofs.Progressing.{bad_line, first_fault, take_fails, went_on}
use Rattle.mlt_trace_check.proofs.progress.Progress.take_line.Goals as goal

pub returns-in-Bad-clause-line : goal.returns-in-Bad-clause-line
returns-in-Bad-clause-line c =
    let next : c.in-Some.line ≡ c.args.self.now.line + 1 = search rules in
    λ raw told taken rest after is first over.
    first_fault c.args.self.now told taken rest raw after c.in-Some.line c.in-Bad.cause first
    (λ items h at. bad_line raw c.in-Bad.cause items c.args.self.now.checker.base c.in-Some.line (is ∙ c.in-Bad.is) (next ∙ at)) over

pub returns-in_err-take-in-Says-clause-line : goal.returns-in_err-take-in-Says-clause-line
returns-in_err-take-in-Says-clause-line c =
    let next : c.in-Some.line ≡ c.args.self.now.line + 1 = search rules in
    let p = err_from_is_err_and c.from_residual.result c.from_residual.ensures.1 in
    rw (p.1, p.2) (take_fails c.in_err-take-in-Says.field-0.0 c.args.self.now c.args.self.now c.take.new.self c.in-Says.item _ c.in-Says.is
    (subst (λ n. Takes (Err c.in_err-take-in-Says.field-0.0) c.args.self.now.checker c.take.new.self n c.in-Says.item) next c.in_err-take-in-Says.ensures))

pub returns-in_ok-note_commit-in-Says-clause-line : goal.returns-in_ok-note_commit-in-Says-clause-line
returns-in_ok-note_commit-in-Says-clause-line c =
    let next : c.in-Some.line ≡ c.args.self.now.line + 1 = search rules in (
      (c.in-Says.item, c.in-Says.is),
      λ raw told taken rest after is first over.
          went_on c.args.self.now _ told taken rest after raw c.in-Says.item first (is ∙ c.in-Says.is)
          (subst (λ n. Takes (Ok _) c.args.self.now.checker c.take.new.self n c.in-Says.item) next c.in_ok-take-in-Says.ensures) next c.in_ok-note_commit-in-Says.ensures.ok over,
    )
